use Rattle.rows.proofs.Kit.{◌≤◌, ◌-◌}
use Rattle.sheet.specs.Walk.{ReadTo}
use Rattle.sheet_rows.proofs.past_pages.Given as goal

abbrev pub invariant-loop-c : goal.invariant-loop-c
invariant-loop-c l = ReadTo l.s l.c × (l.initial.c.row ≤ l.c.row)

abbrev pub decreases-loop-c : goal.decreases-loop-c
decreases-loop-c l = l.n - l.c.row
