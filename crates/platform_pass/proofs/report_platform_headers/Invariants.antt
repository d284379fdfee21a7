use Rattle.platform_pass.proofs.PlatformPass.{PlatformsReported}
use Rattle.platform_pass.proofs.report_platform_headers.Given as goal

abbrev pub invariant-loop-i : goal.invariant-loop-i
invariant-loop-i l = PlatformsReported l.s.bytes.now l.n l.arch l.initial.words l.words l.c l.platforms l.faulty l.i
