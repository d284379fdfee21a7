use Rattle.owner.proofs.{FillLaws.{Filled}}
use Rattle.owner.proofs.put_index.Given as goal

abbrev pub invariant-loop-i : goal.invariant-loop-i
invariant-loop-i g l = Filled l.kept l.given l.initial.words l.words l.k l.i l.q
