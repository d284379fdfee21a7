use Rattle.rows.{proofs.Bools.and_parts}
use Rattle.directive_body.proofs.{BodyLaws.memory_in_order}
use Rattle.directive_body.proofs.required_memory.Goals as goal

pub returns : goal.returns
returns c = λ arch e.
    let (x, q) = and_parts _ _ e in
    let (k, p) = and_parts _ _ x in
    memory_in_order arch _ c.if-b-ne17.false k (rw (← c.u64_at.ensures, ← c.on_page.ensures) p) (rw (← c.u32_at.ensures, ← c.on_page-2.ensures) q)
