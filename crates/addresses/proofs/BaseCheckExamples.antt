-- Bases of a region of two pages, by computing: each answer, and which comes where several apply.
use Rattle.rows.proofs.Kit.{ℕ, ◌≡◌, refl}
use Rattle.addresses.specs.{declared.BaseCheck.BaseCheck, declared.BaseCheck.TheVariants.{Valid, Unaligned, BelowMinimum, AboveMaximum}, Addresses.is_multiple, BaseChecks.base_check}

-- from the minimum 0x10000 up to the maximum 0x20000, on pages
abbrev low : ℕ → BaseCheck
low base = base_check 0x1000 0x2000 0x10000 0x20000 base

pub each_answer : (low 0x10000 ≡ Valid) × (low 0x1E000 ≡ Valid) × (low 0x10800 ≡ Unaligned) × (low 0xF000 ≡ BelowMinimum) × (low 0x1F000 ≡ AboveMaximum)
unfolding base_check is_multiple
each_answer = (refl, refl, refl, refl, refl)

-- unaligned and below the minimum; unaligned and above the maximum
pub unaligned_first : (low 0xF800 ≡ Unaligned) × (low 0x1F800 ≡ Unaligned)
unfolding base_check is_multiple
unaligned_first = (refl, refl)

-- below the minimum 0x20000 and above the maximum 0x10000; and unaligned besides
pub below_first : (base_check 0x1000 0x2000 0x20000 0x10000 0xF000 ≡ BelowMinimum) × (base_check 0x1000 0x2000 0x20000 0x10000 0xF800 ≡ Unaligned)
unfolding base_check is_multiple
below_first = (refl, refl)

-- up to the maximum 2^64 - 1: the sums are 2^64 - 0x1000, 2^64 and 2^64 + 0x1000, of which the low 64 bits are not above any maximum
abbrev high : ℕ → BaseCheck
high base = base_check 0x1000 0x2000 0 0xFFFFFFFFFFFFFFFF base

pub exact_sums : (high 0xFFFFFFFFFFFFD000 ≡ Valid) × (high 0xFFFFFFFFFFFFE000 ≡ AboveMaximum) × (high 0xFFFFFFFFFFFFF000 ≡ AboveMaximum)
unfolding base_check is_multiple
exact_sums = (refl, refl, refl)

-- of alignment 0 only 0 is aligned
pub alignment_zero : (base_check 0 0x2000 0 0x20000 0 ≡ Valid) × (base_check 0 0x2000 0 0x20000 0x1000 ≡ Unaligned)
unfolding base_check is_multiple
alignment_zero = (refl, refl)
