use Rattle.rows.{proofs.Kit.{◌+◌, ◌≡◌}, specs.Rows.{any, before}}
use Rattle.sheet.{specs.Head.{first_directive}, specs.Walk.cursor_at}
use Rattle.sheet_headers.specs.Headers.{sheet_headers}
use Rattle.rules.specs.Directives.{allocates, inserts}
use Rattle.directive_pass.proofs.known_area.Given as goal

abbrev pub invariant-loop-i : goal.invariant-loop-i
invariant-loop-i l = (l.c ≡ cursor_at l.s.bytes.now (first_directive l.s.bytes.now + l.i))
    × (l.allocated ≡ any (allocates l.area) (before l.i (sheet_headers l.s.bytes.now).directives))
    × (l.inserted ≡ any (inserts l.area) (before l.i (sheet_headers l.s.bytes.now).directives))
