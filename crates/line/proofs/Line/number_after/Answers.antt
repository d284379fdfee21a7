use Rattle.rows.proofs.Kit.{arith, length-append}
use Rattle.line.proofs.{DigitLaws.digits_short}
use Rattle.line.proofs.Line.number_after.Goals as goal

pub returns-clause-at_most : goal.returns-clause-at_most
returns-clause-at_most c = rw (c.digits.ensures, c.text.ensures, length-append, length-append) (omega (arith, digits_short 20 c.args.n))
