use Rattle.line.specs.Line.{accepted_line, refused_line, line_of}
use Rattle.line.proofs.line_of.Goals as goal

pub returns-then-is_refusal : goal.returns-then-is_refusal
unfolding line_of refused_line
returns-then-is_refusal c = rw (← c.is_refusal.ensures, c.if-is_refusal.true) c.numbers_line.ensures

pub returns : goal.returns
unfolding line_of accepted_line
returns c = rw (← c.is_refusal.ensures, c.if-is_refusal.false) c.numbers_line-2.ensures
