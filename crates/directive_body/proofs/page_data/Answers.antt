use Rattle.rows.proofs.Kit.{arith, eqb-true}
use Rattle.directive_body.proofs.{BodyLaws.page_in_order}
use Rattle.directive_body.proofs.page_data.Goals as goal

pub returns : goal.returns
returns c = λ arch e. page_in_order arch _ (omega arith) (omega arith) (rw (← c.u64_at.ensures, ← c.u16_at.ensures) (eqb-true _ 0 e))
