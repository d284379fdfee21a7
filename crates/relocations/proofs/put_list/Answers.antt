use Rattle.rows.proofs.Kit.{◌∙◌, length}
use Rattle.igvm_defs.proofs.AnswerLaws.{thrown}
use Rattle.sheet.specs.Head.{limits}
use Rattle.query.proofs.QueryLaws.{not_refused}
use Rattle.relocations.proofs.{CallLaws.{refused_words, found_words, room}}
use Rattle.relocations.proofs.put_list.Goals as goal

pub returns-in_err-sheet : goal.returns-in_err-sheet
returns-in_err-sheet c =
    let a = c.args in
    let h = c.in_err-sheet.ensures in
    record { value = thrown c.from_residual.result _ _ _ c.from_residual.ensures.1 h; words_after = refused_words limits a.s.now a.given a.words.now h.1 }

pub put_regions-requires : goal.put_regions-requires
put_regions-requires c =
    let a = c.args in
    let (passed, same) = c.in_ok-sheet.ensures in
    rw same (room limits a.s.now a.given (length a.words.now) (not_refused _ passed))

pub returns : goal.returns
returns c =
    let a = c.args in
    let (passed, same) = c.in_ok-sheet.ensures in
    let put = c.put_regions.ensures in
    let (table, count) = rw same at put.table_value in
    record {
      value = (passed, (count, table));
      words_after = rw same at put.words_after ∙ found_words limits a.s.now a.given a.words.now (not_refused _ passed);
    }
