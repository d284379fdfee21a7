use Rattle.rows.proofs.Kit.{refl, ap, arith, rules}
use Rattle.sheet.specs.declared.SheetHead.{SheetHead}
use Rattle.sheet_headers.specs.Headers.{sheet_headers}
use Rattle.keep.proofs.KeepLaws.{reached_none, row_known, row_room, row_header, reached_next, reached_end}
use Rattle.keep.proofs.keep_regions.Goals as goal

pub loop-i-init : goal.loop-i-init
loop-i-init g c =
    let s = c.args.s.now in let head = s.head_is in let (few, room) = c.requires in
    reached_none s.bytes.now _ _ _ _ s.readable (ap (λ (h : SheetHead). h.platforms) head) (ap (λ (h : SheetHead). h.initializations) head) (rw head (few, room)) c.cursor_at-c.ensures
    refl (c.new-kept.ensures.ordered c.args.kept.now.regions.gpa c.args.kept.now.regions.size).order

pub header_at-row-requires-clause-at_row : goal.header_at-row-requires-clause-at_row
header_at-row-requires-clause-at_row g c = (row_known c.loop-i.invariant c.loop-i-test.true).0

pub header_at-row-requires-clause-row_value : goal.header_at-row-requires-clause-row_value
header_at-row-requires-clause-row_value g c = (row_known c.loop-i.invariant c.loop-i-test.true).1

pub overflow_cast-first-in-loop-i : goal.overflow_cast-first-in-loop-i
overflow_cast-first-in-loop-i g c = let small = (row_room c.loop-i.invariant c.loop-i-test.true).0 in omega arith

pub keep_row-requires : goal.keep_row-requires
keep_row-requires g c =
    let (_, small, room, more) = row_room c.loop-i.invariant c.loop-i-test.true in let by = c.loop-i.invariant.holds.order in
    search rules

pub loop-i-preserved : goal.loop-i-preserved
loop-i-preserved g c =
    let inv = c.loop-i.invariant in let row = c.header_at-row.ensures in
    reached_next inv _ _ row.1 (c.keep_row.ensures _ (sheet_headers c.args.s.now.bytes.now).initializations _ (row_header inv _ row.0) refl inv.holds)

pub returns-clause-holds_regions : goal.returns-clause-holds_regions
returns-clause-holds_regions g c =
    let m = c.loop-i-test.false in let l = c.loop-i.auto.i-end in (reached_end c.loop-i.invariant (omega arith)).0

pub returns-clause-holds_rows : goal.returns-clause-holds_rows
returns-clause-holds_rows g c =
    let m = c.loop-i-test.false in let l = c.loop-i.auto.i-end in (reached_end c.loop-i.invariant (omega arith)).1
