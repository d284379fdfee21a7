use Rattle.rows.proofs.Kit.{◌∙◌, ◌+◌, arith}
use Rattle.sheet.proofs.Readable.{offset_first, readable_bounds}
use Rattle.sheet_headers.{specs.Headers.sheet_headers, proofs.{HeaderLaws.sheet_counts, ListLaws.rows_first}}
use Rattle.igvm_defs.proofs.AnswerLaws.{thrown, row_passed, row_stopped}
use Rattle.rules.specs.Verdict.{platform_faults}
use Rattle.platform_pass.proofs.PlatformPass.{platform_known, platform_room, where_ok, platforms_next, platforms_stop, platforms_end}
use Rattle.platform_pass.proofs.platform_rows.Goals as goal

pub new-c-requires : goal.new-c-requires
new-c-requires c = let r = c.args.s.now in let b = readable_bounds r.bytes.now r.readable in rw (c.rows.ensures, r.head_is) (omega arith)

pub loop-i-init : goal.loop-i-init
loop-i-init c =
    let r = c.args.s.now in let s = r.bytes.now in let head = r.head_is in
    record {
      readable = r.readable;
      rows = rw head;
      arch = rw (c.arch-arch.ensures, c.revision.ensures, head) (sheet_counts s).arch;
      reached = rows_first s 0 _ (platform_faults (sheet_headers s)) _ (rw (c.new-c.ensures, c.rows.ensures, head, offset_first s));
      holds = c.new-platforms.ensures (sheet_headers s).platforms;
    }

pub header_at-row-requires-clause-at_row : goal.header_at-row-requires-clause-at_row
header_at-row-requires-clause-at_row c = (platform_known c.loop-i.invariant c.loop-i-test.true).0

pub header_at-row-requires-clause-row_value : goal.header_at-row-requires-clause-row_value
header_at-row-requires-clause-row_value c = (platform_known c.loop-i.invariant c.loop-i-test.true).1

pub add-requires : goal.add-requires
add-requires c = platform_room c.loop-i.invariant c.loop-i-test.true

pub returns-in_err-map_err : goal.returns-in_err-map_err
returns-in_err-map_err c =
    let r = c.loop-i.invariant in
    let (is, t) = row_stopped c.add.result _ (c.add.ensures.told _ r.holds) (c.loop-i.i + 1) c.in_err-map_err.field-0.0 c.in_err-map_err.ensures.cases (λ x p. cc) (λ f q. cc) in
    thrown _ _ _ _ c.from_residual.ensures.1 (platforms_stop r _ _ c.header_at-row.ensures.0 c.loop-i-test.true is t)

pub loop-i-preserved : goal.loop-i-preserved
loop-i-preserved c =
    let r = c.loop-i.invariant in let row = c.header_at-row.ensures in let ok = c.in_ok-map_err.ensures.variant in
    let none = row_passed c.add.result _ (c.add.ensures.told _ r.holds) ok in
    platforms_next r _ _ _ row.0 c.loop-i-test.true none (where_ok c.add.result _ _ ok (c.add.ensures.held _ r.holds)).1 row.1

pub returns : goal.returns
returns c = platforms_end c.loop-i.invariant c.loop-i-test.false
