use Rattle.rows.proofs.Kit.{◌-◌}
use Rattle.sheet.specs.Walk.{ReadTo}
use Rattle.sheet_rows.proofs.read_from.Given as goal

abbrev pub invariant-loop-c : goal.invariant-loop-c
invariant-loop-c l = ReadTo l.s l.c

abbrev pub decreases-loop-c : goal.decreases-loop-c
decreases-loop-c l = l.n - l.c.row
