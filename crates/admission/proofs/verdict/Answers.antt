use Rattle.rows.proofs.Kit.{arith, length, lt-ltb, le-ltb, rules}
use Rattle.admission.specs.Admission.{admit_of}
use Rattle.admission.proofs.verdict.Goals as goal

pub returns-then-s-gt-INPUT_BYTES : goal.returns-then-s-gt-INPUT_BYTES
unfolding admit_of
returns-then-s-gt-INPUT_BYTES c = rw (lt-ltb 65536 (length c.args.s.now) (omega arith))

pub returns : goal.returns
unfolding admit_of
returns c = rw (le-ltb 65536 (length c.args.s.now) (omega arith)) c.new.ensures
