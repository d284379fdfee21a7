use Rattle.rows.proofs.Kit.{◌≡◌, length}
use Rattle.lent.specs.Lent.{bytes_put}
use Rattle.lent.proofs.clear_words.Given as goal

-- `clear_words` meets its contract. The loop's invariant: the first i bytes are 0.
abbrev pub invariant-loop-i : goal.invariant-loop-i
invariant-loop-i l = (length l.b ≡ length l.initial.b) × (l.b ≡ bytes_put 0 l.i (λ _. 0) l.initial.b)
