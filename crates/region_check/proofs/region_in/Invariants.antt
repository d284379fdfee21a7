use Rattle.rows.proofs.Kit.{◌≡◌, false, ◌<◌, ℕ}
use Rattle.answers.specs.Owner.{ends_at}
use Rattle.region_check.proofs.region_in.Given as goal

abbrev pub invariant-loop-i : goal.invariant-loop-i
invariant-loop-i l = (j : ℕ) → j < l.i → ends_at l.words l.gpa j ≡ false
