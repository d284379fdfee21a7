use Rattle.rows.proofs.Kit.{◌∙◌, length}
use Rattle.sheet.specs.Head.{limits}
use Rattle.query.proofs.QueryLaws.{not_refused}
use Rattle.relocations.proofs.{CallLaws.{refused_answer, found_answer}}
use Rattle.relocations.proofs.relocations.Goals as goal

pub returns-in-Ok-clause-value : goal.returns-in-Ok-clause-value
returns-in-Ok-clause-value c =
    let (passed, tells) = c.in-Ok.ensures.value in let (count, table) = tells in
    c.found.ensures ∙ rw (count, table) (found_answer limits c.args.s.now c.args.given (length c.args.words.now) (not_refused _ passed))

pub returns-in-Err-clause-value : goal.returns-in-Err-clause-value
returns-in-Err-clause-value c =
    let (e, t) = c.in-Err.ensures.value in
    c.found-in-Err.ensures ∙ rw e (refused_answer limits c.args.s.now c.args.given (length c.args.words.now) t)
