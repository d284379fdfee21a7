use Rattle.rows.{proofs.Kit.{◌+◌, rules}, specs.Rows.before}
use Rattle.igvm_defs.proofs.AnswerLaws.{thrown, row_passed, row_stopped}
use Rattle.sheet_headers.{specs.Headers.sheet_headers, proofs.{HeaderLaws.sheet_counts, ListLaws.rows_first}}
use Rattle.rules.specs.Verdict.{initialization_faults}
use Rattle.initialization_check.proofs.RecordLaws.{holds_none}
use Rattle.initialization_pass.proofs.InitializationPass.{initialization_known, initialization_room, where_ok, initializations_next, initializations_stop, initializations_end}
use Rattle.initialization_pass.proofs.validate_initialization_headers.Goals as goal

pub loop-i-init : goal.loop-i-init
loop-i-init c =
    let r = c.args.s.now in let s = r.bytes.now in let head = r.head_is in
    record {
      asked =
          record {
            readable = r.readable;
            first_row = rw head;
            rows = rw head;
            arch = rw (c.arch-arch.ensures, c.revision.ensures, head) (sheet_counts s).arch;
            platforms = c.requires;
          };
      reached = rows_first s _ _ (initialization_faults (sheet_headers s)) _ c.cursor_at-c.ensures;
      holds = holds_none c.new-regions.result (sheet_headers s).initializations c.new-regions.ensures.empty;
      ordered = rw c.new-regions.ensures.empty (c.new-order.ensures.ordered _ _);
    }

pub header_at-row-requires-clause-at_row : goal.header_at-row-requires-clause-at_row
header_at-row-requires-clause-at_row c = (initialization_known c.loop-i.invariant c.loop-i-test.true).0

pub header_at-row-requires-clause-row_value : goal.header_at-row-requires-clause-row_value
header_at-row-requires-clause-row_value c = (initialization_known c.loop-i.invariant c.loop-i-test.true).1

pub add_row-requires : goal.add_row-requires
add_row-requires c = let (_, _, n, m) = initialization_room c.loop-i.invariant c.loop-i-test.true in let o = c.loop-i.invariant.ordered in search rules

pub returns-in_err-map_err : goal.returns-in_err-map_err
returns-in_err-map_err c =
    let r = c.loop-i.invariant in let hs = sheet_headers c.args.s.now.bytes.now in
    let told = c.add_row.ensures.told hs.platforms (before c.loop-i.i hs.initializations) r.asked.platforms r.holds in
    let (is, t) = row_stopped c.add_row.result _ told (c.args.s.now.head.platforms + c.loop-i.i + 1) c.in_err-map_err.field-0.0 c.in_err-map_err.ensures.cases (λ x p. cc) (λ f q. cc) in
    thrown _ _ _ _ c.from_residual.ensures.1 (initializations_stop r _ _ c.header_at-row.ensures.0 c.loop-i-test.true is t)

pub loop-i-preserved : goal.loop-i-preserved
loop-i-preserved c =
    let r = c.loop-i.invariant in let row = c.header_at-row.ensures in let ok = c.in_ok-map_err.ensures.variant in let hs = sheet_headers c.args.s.now.bytes.now in
    let passed = row_passed c.add_row.result _ (c.add_row.ensures.told hs.platforms (before c.loop-i.i hs.initializations) r.asked.platforms r.holds) ok in
    let held = (where_ok c.add_row.result _ _ ok (c.add_row.ensures.held hs.platforms (before c.loop-i.i hs.initializations) r.asked.platforms r.holds)).1 in
    initializations_next r _ _ _ _ row.0 c.loop-i-test.true passed held c.add_row.ensures.ordered row.1

pub returns : goal.returns
returns c = initializations_end c.loop-i.invariant c.loop-i-test.false
