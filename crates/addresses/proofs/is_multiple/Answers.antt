use native.Mathlib.Nat.{mod-zero}
use Rattle.rows.proofs.Kit.{refl, sym, ◌∙◌}
use Rattle.addresses.specs.Addresses.{is_multiple}
use Rattle.addresses.proofs.{PowerLaws.low_bits}
use Rattle.addresses.proofs.is_multiple.Goals as goal

pub returns-then-a-eq0 : goal.returns-then-a-eq0
unfolding is_multiple
returns-then-a-eq0 c = rw (c.if-a-eq0.true, mod-zero)

pub returns-then-is_power_of_two : goal.returns-then-is_power_of_two
unfolding is_multiple
returns-then-is_power_of_two c =
    let g = c.args in
    low_bits g.x g.a (sym c.is_power_of_two.ensures ∙ c.if-is_power_of_two.true)

pub returns : goal.returns
unfolding is_multiple
returns c = refl
