-- Ranges of bases, by computing: small ones by the definition, which tries each multiple, large ones by the form with which it agrees.
use Rattle.rows.{proofs.Kit.{ℕ, ◌≡◌, refl, sym}, specs.Below.any_below}
use Rattle.addresses.{specs.Addresses.is_multiple, specs.BaseChecks.base_check}
use Rattle.base_ranges.specs.{declared.BaseRange.BaseRange, declared.BaseRange.TheVariants.{Always, Never, Sometimes}, BaseRanges.{any_multiple, range_of, base_range}, Nearest.multiple_to}
use Rattle.base_ranges.proofs.PartLaws.{closed}

-- ---- each multiple tried: of alignment 3 and size 2, from the minimum 3 up to the maximum 11, the bases 3, 6 and 9 are valid

abbrev small : ℕ → ℕ → BaseRange
small lowest highest = base_range 3 2 3 11 lowest highest

-- no multiple; one that is valid, one below the minimum, one above the maximum
pub few : (small 4 5 ≡ Never) × (small 5 7 ≡ Always) × (small 6 6 ≡ Always) × (small 7 7 ≡ Never) × (small 0 2 ≡ Never) × (small 10 14 ≡ Never)
unfolding base_range range_of any_multiple any_below base_check is_multiple
few = (refl, refl, refl, refl, refl, refl)

-- ends on a multiple, and off one: the ends count
pub ends : (small 3 9 ≡ Always) × (small 1 11 ≡ Always) × (small 0 9 ≡ Sometimes) × (small 3 12 ≡ Sometimes) × (small 9 12 ≡ Sometimes) × (small 10 12 ≡ Never)
unfolding base_range range_of any_multiple any_below base_check is_multiple
ends = (refl, refl, refl, refl, refl, refl)

-- the first and the last are not valid, and one between them is
pub between : small 0 12 ≡ Sometimes
unfolding base_range range_of any_multiple any_below base_check is_multiple
between = refl

-- a minimum above the maximum; of alignment 0 only 0 is a multiple
pub none : (base_range 3 2 9 6 0 12 ≡ Never) × (base_range 0 2 0 11 0 9 ≡ Always) × (base_range 0 2 0 11 1 9 ≡ Never)
unfolding base_range range_of any_multiple any_below base_check is_multiple
none = (refl, refl, refl)

-- ---- image B's region: alignment 0x1000, size 0x2000, minimum 0, maximum 0x200000

abbrev image_b : ℕ → ℕ → BaseRange
image_b lowest highest = base_range 0x1000 0x2000 0 0x200000 lowest highest

pub lowest_0 : (image_b 0 0x1FE000 ≡ Always) × (image_b 0 0x1FEFFF ≡ Always) × (image_b 0 0x1FF000 ≡ Sometimes) × (image_b 0 0xFFFFFFFFFFFFFFFF ≡ Sometimes)
unfolding multiple_to is_multiple
lowest_0 = (sym (closed _ _ _ _ _ _), sym (closed _ _ _ _ _ _), sym (closed _ _ _ _ _ _), sym (closed _ _ _ _ _ _))

pub highest_top : (image_b 0x1FE000 0xFFFFFFFFFFFFFFFF ≡ Sometimes) × (image_b 0x1FE001 0xFFFFFFFFFFFFFFFF ≡ Never) × (image_b 0x1FE001 0x1FEFFF ≡ Never)
unfolding multiple_to is_multiple
highest_top = (sym (closed _ _ _ _ _ _), sym (closed _ _ _ _ _ _), sym (closed _ _ _ _ _ _))

-- ---- near 2^64

-- up to the maximum 2^64 - 1; the lowest base that is no multiple is rounded up to 2^64, where there is none
abbrev high : ℕ → ℕ → BaseRange
high lowest highest = base_range 0x1000 0x2000 0 0xFFFFFFFFFFFFFFFF lowest highest

pub maximum_top : (high 0 0xFFFFFFFFFFFFDFFF ≡ Always) × (high 0xFFFFFFFFFFFFD000 0xFFFFFFFFFFFFE000 ≡ Sometimes) × (high 0xFFFFFFFFFFFFD001 0xFFFFFFFFFFFFFFFF ≡ Never)
    × (high 0xFFFFFFFFFFFFF001 0xFFFFFFFFFFFFFFFF ≡ Never)
unfolding multiple_to is_multiple
maximum_top = (sym (closed _ _ _ _ _ _), sym (closed _ _ _ _ _ _), sym (closed _ _ _ _ _ _), sym (closed _ _ _ _ _ _))

-- ---- alignment 0x3000, of which the last multiple is 2^64 - 0x1000

abbrev other : ℕ → ℕ → BaseRange
other lowest highest = base_range 0x3000 0x1000 0x3000 0xFFFFFFFFFFFFF000 lowest highest

pub alignment_3000 : (other 0x3000 0xFFFFFFFFFFFFC000 ≡ Always) × (other 0x2FFF 0xFFFFFFFFFFFFEFFF ≡ Always) × (other 0 0x3000 ≡ Sometimes)
    × (other 0x3001 0x5FFF ≡ Never) × (other 0x4000 0xFFFFFFFFFFFFF000 ≡ Sometimes) × (other 0xFFFFFFFFFFFFC001 0xFFFFFFFFFFFFFFFF ≡ Never)
unfolding multiple_to is_multiple
alignment_3000 =
    (sym (closed _ _ _ _ _ _), sym (closed _ _ _ _ _ _), sym (closed _ _ _ _ _ _), sym (closed _ _ _ _ _ _), sym (closed _ _ _ _ _ _), sym (closed _ _ _ _ _ _))
