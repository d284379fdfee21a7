use Rattle.platform_pass.proofs.PlatformPass.{PlatformsReached}
use Rattle.platform_pass.proofs.platform_rows.Given as goal

abbrev pub invariant-loop-i : goal.invariant-loop-i
invariant-loop-i l = PlatformsReached l.s.bytes.now l.n l.arch l.c l.platforms l.i
