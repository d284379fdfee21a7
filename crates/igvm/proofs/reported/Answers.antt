use Rattle.report.proofs.CallLaws.{reading_refused, reading_passed}
use Rattle.igvm.proofs.reported.Goals as goal

pub returns-then-number : goal.returns-then-number
returns-then-number c =
    let told = reading_refused _ _ c.requires c.args.words.now _ c.refusal.ensures c.if-number.true in
    record { value = rw c.refused.ensures told.0; words_after = told.1 }

pub report-requires : goal.report-requires
report-requires c = reading_passed _ _ c.requires c.if-number.false
