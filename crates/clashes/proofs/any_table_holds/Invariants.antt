use Rattle.rows.proofs.Kit.{◌≡◌}
use Rattle.clashes.specs.Clashes.{any_table_holds}
use Rattle.clashes.proofs.any_table_holds.Given as goal

abbrev pub invariant-loop-i : goal.invariant-loop-i
invariant-loop-i g l = l.found ≡ any_table_holds l.mask l.gpa l.held.mask l.held.gpa l.held.size l.held.page_table l.i
