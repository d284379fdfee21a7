use Rattle.rows.{proofs.Kit.{◌-◌, ◌≡◌, arith, ap, ◌∙◌}, specs.Below.any_below}
use Rattle.igvm_defs.specs.Revision.{is_x64, arch_of}
use Rattle.sheet.{specs.declared.Cursor.Cursor, specs.Head.{revision_of, row_count, first_directive}}
use Rattle.sheet_headers.specs.Headers.{sheet_headers}
use Rattle.directive_check.proofs.DirectiveRecordLaws.{holds_no_contexts}
use Rattle.validation.proofs.{StartLaws.first_row}
use Rattle.validation.proofs.start_of.Goals as goal

pub past_in_order-requires : goal.past_in_order-requires
unfolding sheet_headers
past_in_order-requires c =
    let h = c.args.s.now.head_is in
    let arch : c.is_x64-x64.result ≡ is_x64 (sheet_headers c.args.s.now.bytes.now).arch =
    c.is_x64-x64.ensures ∙ ap is_x64 (c.arch.ensures ∙ ap arch_of (c.revision.ensures ∙ ap revision_of h)) in
    record { first_row = (first_row _ _ h, c.rows.ensures ∙ ap row_count h, arch); holds_regions = c.requires.holds_regions }

-- the rows before the cursor are in order
pub returns-then-first-from : goal.returns-then-first-from
returns-then-first-from c =
    let first = first_row _ _ c.args.s.now.head_is in
    let l = c.if-first-from.true in
    let a = c.requires.read_to.1 (omega arith) in
    record { at_value = (a.read.at, a.low, a.read.high); i_value = (a.good, a.holds) }

pub past_in_order-requires-then-s-gt-FEW_ROWS : goal.past_in_order-requires-then-s-gt-FEW_ROWS
unfolding sheet_headers
past_in_order-requires-then-s-gt-FEW_ROWS c =
    let h = c.args.s.now.head_is in
    let arch : c.is_x64-x64.result ≡ is_x64 (sheet_headers c.args.s.now.bytes.now).arch =
    c.is_x64-x64.ensures ∙ ap is_x64 (c.arch.ensures ∙ ap arch_of (c.revision.ensures ∙ ap revision_of h)) in
    record { first_row = (first_row _ _ h, c.rows-then-s-gt-FEW_ROWS.ensures ∙ ap row_count h, arch); holds_regions = c.requires.holds_regions }

pub cursor_at-requires : goal.cursor_at-requires
cursor_at-requires c = rw c.args.s.now.head_is (omega arith)

-- at the first directive row no row is passed
pub returns : goal.returns
unfolding any_below
returns c =
    let s = c.args.s.now.bytes.now in
    let e = c.cursor_at.ensures in
    let row : c.cursor_at.result.row ≡ first_directive s = ap (λ (x : Cursor). x.row) e ∙ first_row _ _ c.args.s.now.head_is in
    let z : c.cursor_at.result.row - first_directive s ≡ 0 = omega arith in
    record { at_value = (rw e, omega arith, omega arith); i_value = (rw z, rw z (holds_no_contexts (sheet_headers s).directives)) }
