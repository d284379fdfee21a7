-- Which region of a mask owns an address, by a reading of all rows; and the regions of a mask in order of their starts. Regions are of either kind (18, 19).
use Rattle.std.specs.Prelude.{ℕ, ◌+◌, ◌/◌, ◌%◌}
use mathlib.Core.{Bool.{Bool, cond, ◌&&◌}, Option.{Option, none, some}}
use Rattle.std.specs.Prelude.{eqb, ltb}
use Rattle.rows.specs.{Below.first_below, Rows.{Rows, count_of}}
use Rattle.initialization_header.specs.{declared.IgvmInitializationHeader.IgvmInitializationHeader}
use Rattle.masks.specs.Masks.{matches}
use Rattle.addresses.specs.Addresses.{contains}
use Rattle.rules.specs.{declared.Region.Region, Headers.Headers, Regions.{region_of, region_passes}}

-- the region's mask holds every bit of the mask given
abbrev pub is_of_mask : ℕ → Region → Bool
is_of_mask given r = matches given r.mask

-- and the region contains the address
unfoldable pub owns_address : ℕ → ℕ → Region → Bool
owns_address given gpa r = is_of_mask given r && contains r.gpa r.size gpa

-- an initialization row's number in the sheet, from 1; 0 where there is none
abbrev pub number_of_row : Headers → Option ℕ → ℕ
number_of_row f none = 0
number_of_row f (some i) = f.platforms.count + i + 1

-- the row whose region owns the address, or 0
unfoldable pub owner_of : Headers → ℕ → ℕ → ℕ
owner_of f given gpa = number_of_row f (first_below f.initializations.count (λ i. region_passes (owns_address given gpa) (f.initializations.row i)))

-- ---- in order of start

-- how many regions the mask has
unfoldable pub index_count : Rows IgvmInitializationHeader → ℕ → ℕ
index_count xs given = count_of (region_passes (is_of_mask given)) xs

-- how many of them start below an address
unfoldable pub starts_below : Rows IgvmInitializationHeader → ℕ → ℕ → ℕ
starts_below xs given gpa = count_of (region_passes (λ r. is_of_mask given r && ltb r.gpa gpa)) xs

-- the region is of the mask, and k of the mask's regions start below it
unfoldable pub is_in_place : Rows IgvmInitializationHeader → ℕ → ℕ → Region → Bool
is_in_place xs given k r = is_of_mask given r && eqb (starts_below xs given r.gpa) k

-- the row of region k of the mask, from 0, in order of start
unfoldable pub by_start : Rows IgvmInitializationHeader → ℕ → ℕ → Option ℕ
by_start xs given k = first_below xs.count (λ i. region_passes (is_in_place xs given k) (xs.row i))

-- start, size and row of a region: its words in an index
abbrev pub indexed_word : ℕ → ℕ → Option Region → ℕ
indexed_word row part none = 0
indexed_word row part (some r) = cond (eqb part 0) r.gpa (cond (eqb part 1) r.size row)

abbrev pub indexed_row : Headers → ℕ → Option ℕ → ℕ
indexed_row f part none = 0
indexed_row f part (some i) = indexed_word (number_of_row f (some i)) part (region_of (f.initializations.row i))

-- word w of a mask's index: three words a region, in order of start
unfoldable pub index_word : Headers → ℕ → ℕ → ℕ
index_word f given w = indexed_row f (w % 3) (by_start f.initializations given (w / 3))
