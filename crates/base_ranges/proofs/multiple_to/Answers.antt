use native.Mathlib.Nat.{mod-zero}
use Rattle.rows.proofs.Kit.{◌-◌, ◌%◌, ◌≡◌, refl, sym, ◌∙◌, arith, bit_and}
use Rattle.addresses.proofs.PowerLaws.{low_remainder}
use Rattle.base_ranges.specs.Nearest.{multiple_to}
use Rattle.base_ranges.proofs.multiple_to.Goals as goal

pub returns-then-a-eq0 : goal.returns-then-a-eq0
unfolding multiple_to
returns-then-a-eq0 c = let z = mod-zero c.args.x in rw c.if-a-eq0.true (omega arith)

pub returns-then-is_power_of_two : goal.returns-then-is_power_of_two
unfolding multiple_to
returns-then-is_power_of_two c = let low : (let g = c.args in bit_and g.x (g.a - 1) ≡ g.x % g.a) = (let g = c.args in low_remainder g.x g.a (sym c.is_power_of_two.ensures ∙ c.if-is_power_of_two.true)) in rw (low)

pub returns : goal.returns
unfolding multiple_to
returns c = refl
