use Rattle.rows.proofs.Kit.{◌≡◌}
use Rattle.clashes.specs.Clashes.{any_tables_share}
use Rattle.clashes.proofs.any_tables_share.Given as goal

abbrev pub invariant-loop-i : goal.invariant-loop-i
invariant-loop-i g l = l.found ≡ any_tables_share l.r l.held.mask l.held.page_table l.i
