use Rattle.rows.proofs.Kit.{◌-◌}
use Rattle.directive_accept.specs.Accepted.{Onward}
use Rattle.directive_accept.proofs.past_pages.Given as goal

abbrev pub invariant-loop-c : goal.invariant-loop-c
invariant-loop-c l = Onward l.s l.initial.c l.c

abbrev pub decreases-loop-c : goal.decreases-loop-c
decreases-loop-c l = l.end - l.c.row
