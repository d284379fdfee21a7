use Rattle.rows.proofs.Kit.{◌≡◌, false, eqb, get_or}
use Rattle.rows.specs.Below.{any_below}
use Rattle.platform_check.proofs.Platforms.has_type.Given as goal

abbrev pub invariant-loop-i : goal.invariant-loop-i
invariant-loop-i l = any_below l.i (λ j. eqb l.kind (get_or l.self.types j 0)) ≡ false
