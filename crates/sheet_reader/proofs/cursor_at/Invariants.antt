use Rattle.rows.proofs.Kit.{◌≡◌}
use Rattle.sheet.specs.Walk.{cursor_at}
use Rattle.sheet_reader.proofs.cursor_at.Given as goal

abbrev pub invariant-loop-i : goal.invariant-loop-i
invariant-loop-i l = l.c ≡ cursor_at l.s.bytes.now l.i
