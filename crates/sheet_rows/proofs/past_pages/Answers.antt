use Rattle.rows.proofs.Kit.{arith}
use Rattle.sheet_reader.proofs.ReaderLaws.{row_found, read_after}
use Rattle.sheet_rows.proofs.{RowLaws.page_reads}
use Rattle.sheet_rows.proofs.past_pages.Goals as goal

pub after-c-requires : goal.after-c-requires
after-c-requires c = let f = row_found _ _ _ _ c.in-Some.ensures in (omega arith, omega arith)

pub loop-c-preserved : goal.loop-c-preserved
loop-c-preserved c =
    let s = c.args.s.now in
    let l = c.loop-c in
    let e = c.requires.0 in
    let t = c.loop-c-test.true in
    let n = c.rows-n.ensures in
    let f = row_found s l.c.row l.c.at _ c.in-Some.ensures in
    let d = c.if-from-h.false in
    let low = l.invariant.1 in
    rw c.after-c.ensures
    (read_after s l.c l.invariant.0 _ f (rw (← e) (omega arith)) (page_reads s l.c l.invariant.0 (rw (← e) (omega arith)) _ f c.if-r-ne32.false c.if-r-lt18.false), omega arith)
