use Rattle.rows.proofs.Kit.{◌≡◌}
use Rattle.contexts.specs.Contexts.{any_lacks}
use Rattle.contexts.proofs.any_lacks.Given as goal

abbrev pub invariant-loop-i : goal.invariant-loop-i
invariant-loop-i g l = l.found ≡ any_lacks l.held.mask l.held.vp_index l.held.vtl l.i l.contexts
