use Rattle.rows.{proofs.Kit.{◌≡◌, ◌≤◌, get_or}, specs.Below.count_below}
use Rattle.masks.specs.Masks.{matches}
use Rattle.owner.proofs.count_of.Given as goal

abbrev pub invariant-loop-i : goal.invariant-loop-i
invariant-loop-i g l = (l.count ≡ count_below l.i (λ e. matches l.given (get_or l.held.mask e 0))) × (l.count ≤ l.i)
