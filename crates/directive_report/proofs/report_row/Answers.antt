use Rattle.rows.{proofs.Kit.{sym, ap, true, ◌≡◌, ◌∙◌, arith, rules}, specs.Rows.more}
use Rattle.igvm_defs.specs.declared.Fault.{Fault}
use Rattle.igvm_defs.specs.Refusals.{is_fault, Told}
use Rattle.sheet_headers.{specs.Headers.sheet_headers, proofs.{ListLaws.{at_directive, directive_header}}}
use Rattle.rules.specs.Report.{directive_report}
use Rattle.area_table.{specs.Table.Knows, proofs.AreaTableLaws.{holds_same}}
use Rattle.directive_check.specs.Record.{HoldsContexts}
use Rattle.directive_row.specs.Row.{state_of}
use Rattle.directive_pass.proofs.DirectivePass.{holds_tables}
use Rattle.directive_report.specs.Reported.{kept_to}
use Rattle.directive_report.proofs.{DirectiveReport.{held_room, bad_row, row_told, areas_told, kept_with, kept_without}}
use Rattle.directive_report.proofs.report_row.Given.{Over}
use Rattle.directive_report.proofs.report_row.Goals as goal
use Rattle.directive_report.proofs.report_row.Goals.{After-validate_row-row}

pub named_row-name-requires : goal.named_row-name-requires
named_row-name-requires g c = let (arch, at, l, W) = c.requires.readable in (l, at)

pub state_named-state-requires : goal.state_named-state-requires
state_named-state-requires g c =
    let (arch, at, l, W) = c.requires.readable in
    (search rules, ((omega arith, W), c.requires.known.1))

pub validate_row-row-requires : goal.validate_row-row-requires
validate_row-row-requires g c =
    let (arch, at, l, W) = c.requires.readable in
    let (row, list) = at_directive _ c.args.s.now.readable _ _ at l in
    (search rules, (row, list, held_room _ _ c.args.s.now.readable c.requires.regions))

-- what is told of the row after the kept rows
answered : {g : Over} (c : After-validate_row-row g)
    → let s = c.args.s.now.bytes.now in
    Told c.validate_row-row.result.told (directive_report (sheet_headers s) c.args.i) × HoldsContexts c.validate_row-row.result.contexts (more (kept_to s c.args.i) ((sheet_headers s).directives.row c.args.i))
answered c =
    let (arch, at, l, W) = c.requires.readable in
    let s = c.args.s.now.bytes.now in
    let i = c.args.i in
    let row = directive_header s c.args.c.row i (rw at) in
    let bad = c.bad_in.ensures ∙ bad_row s i _ _ _ row c.named_row-name.ensures.named c.state_named-state.ensures in
    rw row at (row_told s i c.args.arch _ _ _ _ _ arch row bad c.requires.known.0
    (λ xs j e b k. c.validate_row-row.ensures.directive_stepped _ xs j e b (holds_tables _ _ c.requires.regions) k))

pub returns-in-Ok : goal.returns-in-Ok
returns-in-Ok g c =
    let at = c.requires.readable.1 in
    let s = c.args.s.now.bytes.now in
    let i = c.args.i in
    let (told, holds) = answered (goal.at.returns-in-Ok g c).After-validate_row-row in
    let e = rw c.in-Ok.is at told in
    record {
      told = ap (λ (f : Fault). f.number) (sym e);
      contexts_kept = kept_with s i (HoldsContexts c.validate_row-row.result.contexts) e holds;
      areas_kept = holds_same (c.keep_area.ensures (state_of (kept_to s i)) (sym c.state_named-state.ensures) c.requires.known.1) (areas_told s i _ e c.named_row-name.ensures.named);
      after = rw (c.validate_row-row.ensures.next_value, at);
    }

pub returns-in-Err : goal.returns-in-Err
returns-in-Err g c =
    let at = c.requires.readable.1 in
    let s = c.args.s.now.bytes.now in
    let i = c.args.i in
    let (is, t) = rw c.in-Err.is at (answered (goal.at.returns-in-Err g c).After-validate_row-row).0 in
    let told : (c.in-Err.fault ≡ directive_report (sheet_headers s) i) × (is_fault c.in-Err.fault ≡ true) = (is, rw is t) in
    record {
      told = ap (λ (f : Fault). f.number) told.0;
      contexts_kept = kept_without s i (HoldsContexts c.args.contexts) c.in-Err.fault told c.requires.known.0;
      areas_kept = kept_without s i (λ rows. Knows c.args.areas.now (state_of rows)) c.in-Err.fault told c.requires.known.1;
      after = rw (c.validate_row-row.ensures.next_value, at);
    }
