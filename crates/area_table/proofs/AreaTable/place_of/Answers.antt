use Rattle.rows.proofs.Kit.{◌-◌, ◌≡◌, arith, sym, ◌∙◌}
use Rattle.area_table.specs.AreaTable.{ends, child, place_of}
use Rattle.area_table.proofs.{AreaTableLaws.{child_on, root_child, child_place, find_end, find_look, find_zero}}
use Rattle.area_table.proofs.AreaTable.place_of.Goals as goal

pub loop-looked-init : goal.loop-looked-init
unfolding place_of
loop-looked-init g c =
    let e = c.root_of-p.ensures.0 in
    (rw e, rw e (root_child c.args.self.now.links c.args.self.now.areas _ c.args.self.now.tree.counted c.args.area))

pub returns-then-k-self : goal.returns-then-k-self
unfolding ends
returns-then-k-self g c =
    let l = c.loop-looked in (
      record { is = sym (l.invariant.0 ∙ find_end _ _ _ (33 - l._looked) l.rest l.p (omega arith) c.if-k-self.true); other = l.invariant.1.other },
      omega (arith, child_place c.args.self.now.tree _ l.invariant.1),
    )

pub loop-looked-preserved : goal.loop-looked-preserved
unfolding ends child
loop-looked-preserved g c =
    let l = c.loop-looked in
    let t = c.args.self.now in (
      l.invariant.0 ∙ find_look _ _ _ l._looked l.rest l.p (omega arith) c.if-k-self.false,
      child_on t.links t.areas _ t.tree.counted c.args.area l.rest l.p c.if-k-self.false,
    )

pub returns : goal.returns
returns g c =
    let l = c.loop-looked in
    let z : 33 - l._looked ≡ 0 = omega arith in
    rw z at l.invariant.0 ∙ find_zero _ _ _ l.rest l.p
