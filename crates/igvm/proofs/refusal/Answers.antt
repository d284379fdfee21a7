use Rattle.rows.proofs.Kit.{◌∙◌}
use Rattle.report.proofs.CallLaws.{number_told, row_told, detail_told}
use Rattle.igvm.proofs.refusal.Goals as goal

pub returns : goal.returns
returns c = rw (c.verdict-number.ensures.value ∙ number_told _, c.verdict-row.ensures.value ∙ row_told _, c.verdict-detail.ensures.value ∙ detail_told _)
