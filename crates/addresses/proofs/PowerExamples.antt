-- Which alignments are powers of two, by computing.
use Rattle.rows.{proofs.Kit.{◌≡◌, refl, true, false, ◌&&◌, ◌||◌}, specs.Below.any_below}
use Rattle.addresses.specs.Powers.{is_power_of_two}

-- 1, 0x1000, 0x200000, 2^63
pub powers : (is_power_of_two 1 && is_power_of_two 4096 && is_power_of_two 2097152 && is_power_of_two 9223372036854775808) ≡ true
unfolding is_power_of_two any_below
powers = refl

-- 3, 0xfff, 0x3000, 0x5000, 2^63 - 1, 2^64
pub no_powers : (is_power_of_two 3 || is_power_of_two 4095 || is_power_of_two 12288 || is_power_of_two 20480 || is_power_of_two 9223372036854775807 || is_power_of_two 18446744073709551616) ≡ false
unfolding is_power_of_two any_below
no_powers = refl
