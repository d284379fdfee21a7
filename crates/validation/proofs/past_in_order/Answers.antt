use Rattle.rows.{proofs.Kit.{refl, ap, ◌∙◌, arith}}
use Rattle.sheet.{specs.declared.Cursor.Cursor, proofs.Readable.readable_bounds}
use Rattle.sheet_headers.proofs.HeaderLaws.{sheet_counts}
use Rattle.directive_pass.proofs.DirectivePass.{holds_tables}
use Rattle.validation.proofs.{StartLaws.read_to}
use Rattle.validation.proofs.past_in_order.Goals as goal

pub cursor_at-from-requires : goal.cursor_at-from-requires
cursor_at-from-requires c = omega (arith, c.requires.first_row.0)

pub accept_many-at-requires : goal.accept_many-at-requires
accept_many-at-requires c =
    let (first, end, arch) = c.requires.first_row in
    let s = c.args.s.now in
    let m = c.requires.holds_regions.count in
    let counts = sheet_counts s.bytes.now in
    let bounds = readable_bounds s.bytes.now s.readable in
    let e = c.cursor_at-from.ensures in
    let read = read_to s.bytes.now s.readable c.args.first (omega arith) in (
      omega arith,
      (
        (bounds.table, end, arch),
        ((omega arith, holds_tables _ _ c.requires.holds_regions), (rw e read, ap (λ (x : Cursor). x.row) e ∙ first, refl)),
      ),
    )

pub returns : goal.returns
returns c =
    let a = c.accept_many-at.ensures.0 in
    record { at_value = (a.read.at, a.low, a.read.high); i_value = (a.good, a.holds) }
