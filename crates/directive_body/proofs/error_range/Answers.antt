use Rattle.directive_body.proofs.{BodyLaws.range_in_order}
use Rattle.directive_body.proofs.error_range.Goals as goal

pub returns : goal.returns
returns c = λ arch e. range_in_order arch _ c.if-b-ne16.false (rw (← c.u64_at.ensures, ← c.on_page.ensures) e)
