use Rattle.directive_report.proofs.DirectiveReport.{DirectivesReported}
use Rattle.directive_report.proofs.report_rows.Given as goal

abbrev pub invariant-loop-i : goal.invariant-loop-i
invariant-loop-i g l = DirectivesReported l.s.bytes.now l.areas l.initial.words l.words l.c l.contexts l.faulty l.i
