use Rattle.rows.proofs.Kit.{sym, append_assoc, append-nil, arith, length-append, ◌-◌, ◌/◌}
use Rattle.line.specs.Line.{digits_in}
use Rattle.line.proofs.DigitLaws.{digits_short, digits_one, digits_more}
use Rattle.line.proofs.Line.+digits.Goals.{then-n-ge10, else-n-ge10}
use Rattle.line.proofs.Line.+digits.Goals as goal

pub returns-then-k-eq0 : goal.returns-then-k-eq0
unfolding digits_in
returns-then-k-eq0 t c = rw c.if-k-eq0.true (sym (append-nil _))

pub push-requires : goal.push-requires
push-requires t c = elim c.if-n-ge10.branch [
  | then-n-ge10 w ↦ rw (w.self-is, w.digits.ensures, length-append) (omega (arith, digits_short (c.args.k - 1) (c.args.n / 10)))
  | else-n-ge10 w ↦ rw w.self-is (omega arith)
]

pub returns : goal.returns
returns t c = elim c.if-n-ge10.branch [
  | then-n-ge10 w ↦ rw (c.push.ensures, w.self-is, w.digits.ensures, digits_more c.args.k c.args.n c.if-k-eq0.false w.if-n-ge10.true, append_assoc)
  | else-n-ge10 w ↦ rw (c.push.ensures, w.self-is, digits_one c.args.k c.args.n c.if-k-eq0.false w.if-n-ge10.false)
]
