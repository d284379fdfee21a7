-- A base that is known only as a range: what is said over the multiples of the alignment from a lowest to a highest base, ends included. The arithmetic is exact.
use Rattle.std.specs.Prelude.{ℕ, ◌+◌, ◌≤◌, ◌≡◌, Bool, true, false, cond, not, ◌&&◌, leb}
use Rattle.rows.specs.Below.{any_below}
use Rattle.addresses.specs.Addresses.{is_multiple}
use Rattle.addresses.specs.BaseChecks.{base_check, is_valid}
use Rattle.base_ranges.specs.declared.BaseRange.{BaseRange}
use Rattle.base_ranges.specs.declared.BaseRange.TheVariants.{Always, Never, Sometimes}

-- some multiple in the range passes
unfoldable pub any_multiple : ℕ → ℕ → ℕ → (ℕ → Bool) → Bool
any_multiple alignment lowest highest p = any_below (highest + 1) (λ base. leb lowest base && is_multiple base alignment && p base)

-- there is a multiple in the range
abbrev pub has_multiple : ℕ → ℕ → ℕ → Bool
has_multiple alignment lowest highest = any_multiple alignment lowest highest (λ _. true)

-- all pass
abbrev pub all_multiples : ℕ → ℕ → ℕ → (ℕ → Bool) → Bool
all_multiples alignment lowest highest p = not (any_multiple alignment lowest highest (λ base. not (p base)))

-- always if there is one and all pass, never if none passes, else sometimes
unfoldable pub range_of : ℕ → ℕ → ℕ → (ℕ → Bool) → BaseRange
range_of alignment lowest highest p =
    cond (has_multiple alignment lowest highest && all_multiples alignment lowest highest p) Always
    (cond (not (any_multiple alignment lowest highest p)) Never
    Sometimes)

-- a base passes where the base check says that it is valid
unfoldable pub base_range : ℕ → ℕ → ℕ → ℕ → ℕ → ℕ → BaseRange
base_range alignment size minimum maximum lowest highest =
    range_of alignment lowest highest (λ base. is_valid (base_check alignment size minimum maximum base))

-- the answers as numbers; 0 is none of them, and stands in a refusal
abbrev pub range_number : BaseRange → ℕ
range_number Always = 1
range_number Never = 2
range_number Sometimes = 3

-- ---- what each answer says. An answer is given exactly where it is true (proofs/RangeLaws.antt, `exactly`)

-- a multiple in the range
pub record InRange (alignment lowest highest base : ℕ) : Type 0 where
  pub from : lowest ≤ base
  pub to : base ≤ highest
  pub multiple : is_multiple base alignment ≡ true

abbrev pub Says : ℕ → ℕ → ℕ → (ℕ → Bool) → BaseRange → Type 0
Says alignment lowest highest p Always =
    ((base : ℕ) × InRange alignment lowest highest base) × ((base : ℕ) → InRange alignment lowest highest base → p base ≡ true)
Says alignment lowest highest p Never = (base : ℕ) → InRange alignment lowest highest base → p base ≡ false
Says alignment lowest highest p Sometimes =
    ((base : ℕ) × InRange alignment lowest highest base × (p base ≡ true)) × ((base : ℕ) × InRange alignment lowest highest base × (p base ≡ false))
