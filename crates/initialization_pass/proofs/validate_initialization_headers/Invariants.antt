use Rattle.initialization_pass.proofs.InitializationPass.{InitializationsReached}
use Rattle.initialization_pass.proofs.validate_initialization_headers.Given as goal

abbrev pub invariant-loop-i : goal.invariant-loop-i
invariant-loop-i l = InitializationsReached l.s.bytes.now l.first l.n l.arch l.platforms l.c l.regions l.order l.i
