use Rattle.rows.proofs.Kit.{◌≡◌, not, eqb, arith}
use Rattle.rows.proofs.Bools.{one_at_most}
use Rattle.sheet.proofs.Readable.{offset_first, readable_bounds}
use Rattle.sheet_headers.{specs.Headers.sheet_headers, proofs.HeaderLaws.sheet_counts}
use Rattle.platform_pass.proofs.PlatformPass.{reported_none, reported_known, reported_room, reported_length, RowReported, reported_taken, reported_skipped, reported_next, reported_end}
use Rattle.platform_pass.proofs.report_platform_headers.Goals.{in-Ok, in-Err}
use Rattle.platform_pass.proofs.report_platform_headers.Goals as goal

pub new-c-requires : goal.new-c-requires
new-c-requires c = let r = c.args.s.now in let b = readable_bounds r.bytes.now r.readable in rw (c.rows.ensures, r.head_is) (omega arith)

pub loop-i-init : goal.loop-i-init
loop-i-init c =
    let r = c.args.s.now in let s = r.bytes.now in let head = r.head_is in
    reported_none s _ _ _ _ _ r.readable (rw head) (rw (c.arch-arch.ensures, c.revision.ensures, head) (sheet_counts s).arch) (rw head c.requires)
    (rw (c.new-c.ensures, c.rows.ensures, head, offset_first s)) (c.new-platforms.ensures (sheet_headers s).platforms)

pub header_at-row-requires-clause-at_row : goal.header_at-row-requires-clause-at_row
header_at-row-requires-clause-at_row c = (reported_known c.loop-i.invariant c.loop-i-test.true).0

pub header_at-row-requires-clause-row_value : goal.header_at-row-requires-clause-row_value
header_at-row-requires-clause-row_value c = (reported_known c.loop-i.invariant c.loop-i-test.true).1

pub add-requires : goal.add-requires
add-requires c = (reported_room c.loop-i.invariant c.loop-i-test.true).0

pub put_word-requires : goal.put_word-requires
put_word-requires c = let r = c.loop-i.invariant.room in let d = reported_length c.loop-i.invariant in let t = c.loop-i-test.true in omega arith

pub overflow_add-faulty : goal.overflow_add-faulty
overflow_add-faulty c = let m = (reported_room c.loop-i.invariant c.loop-i-test.true).1 in let o = one_at_most (not (eqb c.match-add.number 0)) in omega arith

pub loop-i-preserved : goal.loop-i-preserved
loop-i-preserved c =
    let r = c.loop-i.invariant in let row = c.header_at-row.ensures in
    let told : RowReported c.args.s.now.bytes.now c.loop-i.i c.loop-i.platforms c.add.new.self c.match-add.number =
    elim c.match-add.branch [
      | in-Ok w ↦ rw w.number-is (reported_taken r _ _ row.0 (w.in-Ok.ensures.told _ r.holds) (w.in-Ok.ensures.held _ r.holds))
      | in-Err w ↦ let (told, t) = w.in-Err.ensures.told _ r.holds in rw w.number-is (reported_skipped r _ _ _ row.0 told t (w.in-Err.ensures.held _ r.holds))
    ] in
    rw c.put_word.ensures (reported_next r _ _ _ c.loop-i-test.true told row.1)

pub returns-clause-holds_platforms : goal.returns-clause-holds_platforms
returns-clause-holds_platforms c = let e : c.loop-i.i ≡ c.args.s.now.head.platforms = omega arith in (reported_end c.loop-i.invariant e).0
