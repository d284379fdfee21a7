use Rattle.directive_pass.proofs.DirectivePass.{row_named}
use Rattle.directive_pass.proofs.named_row.Goals as goal

pub returns-clause-named : goal.returns-clause-named
returns-clause-named c =
    let (l, at) = c.requires in
    row_named c.args.s.now.bytes.now c.args.s.now.readable c.args.c c.args.i _ at l (rw (c.cursor_row-row.ensures.0, c.cursor_body.ensures) at c.naming.ensures)
