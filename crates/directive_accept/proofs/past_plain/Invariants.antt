use Rattle.rows.proofs.Kit.{◌-◌}
use Rattle.directive_accept.specs.Accepted.{PlainPassed}
use Rattle.directive_accept.proofs.past_plain.Given as goal

abbrev pub invariant-loop-c : goal.invariant-loop-c
invariant-loop-c l = PlainPassed l.s l.initial.c l.c l.contexts

abbrev pub decreases-loop-c : goal.decreases-loop-c
decreases-loop-c l = l.end - l.c.row
