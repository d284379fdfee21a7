use Rattle.rows.{proofs.Kit.{◌+◌, ◌≡◌}, specs.Rows.any}
use Rattle.sheet.{specs.Head.{first_directive}, specs.Walk.cursor_at}
use Rattle.rules.specs.Directives.{allocates, inserts}
use Rattle.directive_report.specs.Reported.{kept_to}
use Rattle.directive_report.proofs.kept_state.Given as goal

-- what the kept rows among the first i tell of the area
abbrev pub invariant-loop-i : goal.invariant-loop-i
invariant-loop-i l = (l.c ≡ cursor_at l.s.bytes.now (first_directive l.s.bytes.now + l.i)) × (l.allocated ≡ any (allocates l.area) (kept_to l.s.bytes.now l.i)) × (l.inserted ≡ any (inserts l.area) (kept_to l.s.bytes.now l.i))
