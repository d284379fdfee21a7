use Rattle.igvm_defs.proofs.AnswerLaws.{thrown}
use Rattle.owner.proofs.{CallLaws.{index_kept, query_stops}}
use Rattle.owner.proofs.index.Goals as goal

pub returns-in_err-head : goal.returns-in_err-head
returns-in_err-head c =
    let a = c.args in
    let h = query_stops a.s.now a.given a.words.now _ (c.in_err-head.ensures a.given) in
    record { value = thrown c.from_residual.result _ _ _ c.from_residual.ensures.1 h; words_after = index_kept a.s.now a.given a.words.now _ h }
