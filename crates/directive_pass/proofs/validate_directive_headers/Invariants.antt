use Rattle.directive_pass.proofs.{DirectivePass.DirectivesReached}
use Rattle.directive_pass.proofs.validate_directive_headers.Given as goal

abbrev pub invariant-loop-i : goal.invariant-loop-i
invariant-loop-i g l = DirectivesReached l.s.bytes.now l.c l.contexts l.i-counter
