use Rattle.rows.proofs.Kit.{◌≡◌, ◌++◌, take}
use Rattle.line.proofs.Line.text.Given as goal

-- after i turns the line has the first i bytes more
abbrev pub invariant-loop-b : goal.invariant-loop-b
invariant-loop-b l = l.self ≡ l.initial.self ++ take l.b-index l.words
