use Rattle.rows.proofs.Kit.{sym, eq-eqb}
use Rattle.rows.proofs.BelowLaws.{any_below_lem}
use Rattle.platform_check.proofs.Platforms.has_type.Goals as goal

pub returns-then-kind-self : goal.returns-then-kind-self
returns-then-kind-self c = sym (any_below_lem _ _ c.loop-i.i c.loop-i-test.true (eq-eqb _ _ c.if-kind-self.true))
