use Rattle.rows.proofs.Kit.{arith}
use Rattle.sheet.{specs.Head.limits, proofs.Readable.{offset_first, readable_bounds, at_row}}
use Rattle.sheet_reader.proofs.cursor_at.Goals as goal

pub new-c-requires : goal.new-c-requires
new-c-requires c = let b = readable_bounds _ c.args.s.now.readable in rw (c.rows.ensures, c.args.s.now.head_is) (omega arith)

pub loop-i-init : goal.loop-i-init
loop-i-init c = rw (c.new-c.ensures, c.rows.ensures, c.args.s.now.head_is, offset_first _)

pub cursor_row-requires : goal.cursor_row-requires
cursor_row-requires c = let l = c.loop-i in rw l.invariant (at_row limits _ c.args.s.now.readable l.i (omega arith))

pub loop-i-preserved : goal.loop-i-preserved
loop-i-preserved c = rw (c.cursor_row.ensures.1, c.loop-i.invariant)
