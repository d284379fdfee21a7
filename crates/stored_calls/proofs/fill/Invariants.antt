use Rattle.std.proofs.Common.{ℕ, ◌+◌, ◌*◌, ◌%◌, ◌<◌, ◌≡◌, length, get_or}
use Rattle.stored_calls.proofs.fill.Given as goal

-- the first i bytes are filled, and the slice keeps its length
abbrev pub invariant-loop-i : goal.invariant-loop-i
invariant-loop-i l = (length l.b ≡ length l.initial.b) × ((j : ℕ) → j < l.i → get_or l.b j 0 ≡ (37 * j + 51) % 256)
