use Rattle.initialization_pass.proofs.InitializationPass.{InitializationsReported}
use Rattle.initialization_pass.proofs.report_initialization_headers.Given as goal

abbrev pub invariant-loop-i : goal.invariant-loop-i
invariant-loop-i l = InitializationsReported l.s.bytes.now l.first l.n l.arch l.platforms l.initial.words l.words l.c l.regions l.order l.faulty l.i
