use Rattle.rows.{specs.Below.any_below, proofs.Kit.{◌*◌, ◌≡◌, false}}
use Rattle.contexts.specs.Contexts.{lacks_bit}
use Rattle.contexts.proofs.past_fours.Given as goal

abbrev pub invariant-loop-four : goal.invariant-loop-four
invariant-loop-four g l = any_below (4 * l.four) (lacks_bit l.held.mask l.held.vtl l.contexts) ≡ false
