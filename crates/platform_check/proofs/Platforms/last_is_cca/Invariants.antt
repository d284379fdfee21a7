use Rattle.rows.proofs.Kit.{◌≡◌, eqb, get_or}
use Rattle.rows.specs.Below.{last_below}
use Rattle.platform_check.proofs.Platforms.last_is_cca.Given as goal

-- the last of all rows is the last of those still to be looked at
abbrev pub invariant-loop-i : goal.invariant-loop-i
invariant-loop-i l = last_below l.self.count (λ j. eqb (get_or l.self.mask j 0) l.mask) ≡ last_below l.i (λ j. eqb (get_or l.self.mask j 0) l.mask)
