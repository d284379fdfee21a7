use Rattle.rows.proofs.Kit.{◌-◌}
use Rattle.directive_accept.specs.Accepted.{AreasPassed}
use Rattle.directive_accept.proofs.past_area_rows.Given as goal

abbrev pub invariant-loop-c : goal.invariant-loop-c
invariant-loop-c g l = AreasPassed l.s l.initial.c l.c l.areas

abbrev pub decreases-loop-c : goal.decreases-loop-c
decreases-loop-c g l = l.end - l.c.row
