use Rattle.rows.proofs.Kit.{◌≡◌, length}
use Rattle.le.specs.Le.{byte_at}
use Rattle.lent.specs.Lent.{bytes_put}
use Rattle.lent.proofs.put_bytes.Given as goal

-- `put_bytes` meets its contract. The loop's invariant: the first i bytes are put.
abbrev pub invariant-loop-i : goal.invariant-loop-i
invariant-loop-i l = (length l.b ≡ length l.initial.b) × (l.b ≡ bytes_put 0 l.i (λ j. byte_at l.from j) l.initial.b)
