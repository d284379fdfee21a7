use Rattle.rows.proofs.Kit.{◌∙◌}
use Rattle.report.proofs.CallLaws.{number_told}
use Rattle.igvm.proofs.report.Goals as goal

pub reported-requires : goal.reported-requires
reported-requires c = c.verdict-number.ensures.value ∙ number_told _

pub returns : goal.returns
returns c =
    let found = c.reported.ensures in let numbers = c.report_numbers-found.ensures in let told = c.tell.ensures in
    record { value = rw (← found.value, ← numbers) told.value; words_after = found.words_after; lent_after = rw (← found.value, ← numbers) told.lent_after }
