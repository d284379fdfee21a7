use Rattle.rows.proofs.Kit.{arith}
use Rattle.report.proofs.CallLaws.{accepted}
use Rattle.report.proofs.report_accepted.Goals as goal

pub returns : goal.returns
returns c =
    let l = c.if-words-n.false in
    let (p, q) = accepted c.args.s.now c.args.words.now c.requires.1 _ c.requires.2 (omega arith) in
    record { value = p; words_after = rw c.clear_words.ensures q }
