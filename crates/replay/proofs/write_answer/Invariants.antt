-- The lent bytes and the numbers found keep their lengths.
use Rattle.std.proofs.Common.{◌≡◌, length}
use Rattle.replay.proofs.write_answer.Given as goal

abbrev pub invariant-loop-which : goal.invariant-loop-which
invariant-loop-which g l = (length l.lent ≡ length l.initial.lent) × (length l.found ≡ 11)
