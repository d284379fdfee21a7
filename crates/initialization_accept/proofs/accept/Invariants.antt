use Rattle.rows.proofs.Kit.{◌-◌}
use Rattle.initialization_accept.proofs.RowsLaws.{Reached}
use Rattle.initialization_accept.proofs.accept.Given as goal

abbrev pub invariant-loop-c : goal.invariant-loop-c
invariant-loop-c g l = Reached l.s l.end l.x64 l.cca l.kept l.c

abbrev pub decreases-loop-c : goal.decreases-loop-c
decreases-loop-c g l = l.end - l.c.row
