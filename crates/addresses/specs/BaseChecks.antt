-- The check of a proposed base: valid, or why it is turned down. The arithmetic is exact.
use Rattle.std.specs.Prelude.{ℕ, ◌+◌, ◌≤◌, ◌<◌, ◌≡◌, Bool, true, false, cond, not, ltb}
use Rattle.addresses.specs.Addresses.{is_multiple}
use Rattle.addresses.specs.declared.BaseCheck.{BaseCheck}
use Rattle.addresses.specs.declared.BaseCheck.TheVariants.{Valid, Unaligned, BelowMinimum, AboveMaximum}

-- valid, unless one of these applies, the first in this order: unaligned, below the minimum, or with an end above the maximum
unfoldable pub base_check : ℕ → ℕ → ℕ → ℕ → ℕ → BaseCheck
base_check alignment size minimum maximum base =
    cond (not (is_multiple base alignment)) Unaligned
    (cond (ltb base minimum) BelowMinimum
    (cond (ltb maximum (base + size)) AboveMaximum
    Valid))

-- the answers as numbers; 0 is none of them, and stands in a refusal
abbrev pub check_number : BaseCheck → ℕ
check_number Valid = 1
check_number Unaligned = 2
check_number BelowMinimum = 3
check_number AboveMaximum = 4

abbrev pub is_valid : BaseCheck → Bool
is_valid Valid = true
is_valid Unaligned = false
is_valid BelowMinimum = false
is_valid AboveMaximum = false

-- what each answer says. An answer is given exactly where it is true (proofs/BaseCheckLaws.antt, `exactly`)
abbrev pub Says : ℕ → ℕ → ℕ → ℕ → ℕ → BaseCheck → Type 0
Says alignment size minimum maximum base Valid = (is_multiple base alignment ≡ true) × (minimum ≤ base) × (base + size ≤ maximum)
Says alignment size minimum maximum base Unaligned = is_multiple base alignment ≡ false
Says alignment size minimum maximum base BelowMinimum = (is_multiple base alignment ≡ true) × (base < minimum)
Says alignment size minimum maximum base AboveMaximum = (is_multiple base alignment ≡ true) × (minimum ≤ base) × (maximum < base + size)
