use Rattle.rows.proofs.Kit.{◌-◌}
use Rattle.directive_accept.specs.Accepted.{NamedAccepted}
use Rattle.directive_accept.proofs.past_named.Given as goal

abbrev pub invariant-loop-c : goal.invariant-loop-c
invariant-loop-c g l = NamedAccepted l.s l.c l.contexts l.areas

abbrev pub decreases-loop-c : goal.decreases-loop-c
decreases-loop-c g l = l.end - l.c.row
