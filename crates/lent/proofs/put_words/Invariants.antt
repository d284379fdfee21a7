use Rattle.rows.proofs.Kit.{◌≡◌, length}
use Rattle.lent.proofs.{LentLaws.lead_put}
use Rattle.lent.proofs.put_words.Given as goal

-- `put_words` meets its contract. The loop's invariant: the first k words of the row are put.
abbrev pub invariant-loop-k : goal.invariant-loop-k
invariant-loop-k l = (length l.b ≡ length l.initial.b) × (l.b ≡ lead_put l.k l.n l.words l.initial.b)
