use Rattle.rows.{specs.Below.any_below, proofs.Kit.{◌≡◌, false}}
use Rattle.contexts.specs.Contexts.{lacks_bit}
use Rattle.contexts.proofs.first_lacking.Given as goal

abbrev pub invariant-loop-i : goal.invariant-loop-i
invariant-loop-i g l = any_below l.i (lacks_bit l.held.mask l.held.vtl l.contexts) ≡ false
