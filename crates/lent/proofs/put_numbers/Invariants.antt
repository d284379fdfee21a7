use Rattle.rows.proofs.Kit.{◌≡◌, length}
use Rattle.lent.proofs.{LentLaws.first_put}
use Rattle.lent.proofs.put_numbers.Given as goal

-- `put_numbers` meets its contract. The loop's invariant: the first k numbers are put.
abbrev pub invariant-loop-k : goal.invariant-loop-k
invariant-loop-k l = (length l.b ≡ length l.initial.b) × (l.b ≡ first_put l.k l.numbers l.initial.b)
