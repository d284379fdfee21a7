use Rattle.rows.proofs.Kit.{◌-◌}
use Rattle.platform_accept.proofs.{PlatformLaws.Reached}
use Rattle.platform_accept.proofs.accept.Given as goal

abbrev pub invariant-loop-c : goal.invariant-loop-c
invariant-loop-c l = Reached l.s l.c l.seen l.cca

abbrev pub decreases-loop-c : goal.decreases-loop-c
decreases-loop-c l = l.end - l.c.row
