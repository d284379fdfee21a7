use Rattle.keep.proofs.KeepLaws.{Reached}
use Rattle.keep.proofs.keep_regions.Given as goal

abbrev pub invariant-loop-i : goal.invariant-loop-i
invariant-loop-i g l = Reached l.s.bytes.now l.first l.i-end l.kept l.c l.i
