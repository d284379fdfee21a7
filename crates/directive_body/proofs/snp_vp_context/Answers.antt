use Rattle.rows.proofs.Kit.{arith}
use Rattle.directive_body.proofs.{BodyLaws.snp_in_order}
use Rattle.directive_body.proofs.snp_vp_context.Goals as goal

pub returns : goal.returns
returns c = λ arch e. snp_in_order arch _ (omega arith) (rw (← c.u64_at.ensures, ← c.on_page.ensures) e)
