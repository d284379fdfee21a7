use Rattle.rows.proofs.Kit.{ap, ◌∙◌, arith}
use Rattle.sheet.{specs.Head.row_count, proofs.Readable.readable_bounds}
use Rattle.validation.proofs.may_be_full.Goals as goal

pub kind_at-requires : goal.kind_at-requires
kind_at-requires c =
    let s = c.args.s.now in
    let rows = c.rows.ensures ∙ ap row_count s.head_is in
    let bounds = readable_bounds _ s.readable in
    omega arith
