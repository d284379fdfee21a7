use Rattle.rows.proofs.Kit.{◌/◌, ◌≤◌, arith, length}
use Rattle.sheet.{specs.Head.{limits, head_of, row_count}, proofs.Readable.{readable_bounds, sheet_says}}
use Rattle.report.proofs.{CallLaws.{words_refused, given, room}}
use Rattle.report.proofs.report_each.Goals as goal

pub new-head-requires : goal.new-head-requires
new-head-requires c = (readable_bounds _ ((sheet_says limits _).0 c.requires).0).head

pub invariant_of-report_rows : goal.invariant_of-report_rows
invariant_of-report_rows c = record { readable = ((sheet_says limits _).0 c.requires).0; head_is = c.new-head.ensures }

pub report_rows-requires : goal.report_rows-requires
report_rows-requires c =
    let s = c.args.s.now in let b = c.args.words.now in
    let l : row_count (head_of s) ≤ length b / 8 = let e = rw (c.rows.ensures, c.new-head.ensures) at c.if-words-rows.false in omega arith in
    let e = given s b c.requires l in
    (room s b e, e)

pub returns-then-words-rows : goal.returns-then-words-rows
returns-then-words-rows c =
    let e = c.if-words-rows.true in
    let (p, q) = words_refused c.args.s.now c.args.words.now c.requires (rw (c.rows.ensures, c.new-head.ensures) at e) in
    record { value = rw c.refused.ensures p; words_after = q }
