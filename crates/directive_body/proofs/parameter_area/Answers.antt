use Rattle.rows.{proofs.Kit.{arith, leb-true, length, ◌≤◌}, proofs.Bools.and_parts}
use Rattle.directive_body.proofs.{BodyLaws.area_in_order}
use Rattle.directive_body.proofs.parameter_area.Goals as goal

pub returns : goal.returns
returns c =
    let l : 12 ≤ length c.args.b.now = omega arith in (
      λ arch e.
          let (p, d) = and_parts _ _ e in
          area_in_order arch _ l (rw (← c.u64_at-bytes.ensures, ← c.on_page.ensures) p) (rw (← c.u64_at-bytes.ensures) (leb-true _ _ d)),
      λ e. l,
    )
