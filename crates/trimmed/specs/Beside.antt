-- Beside request 14's conclusion: what is said of a base known only as a range, and which row owns an address. Both hold for every mask: 0 is refused by either sheet.
use Rattle.std.specs.Prelude.{ℕ, true, false, List, ◌≡◌}
use Rattle.std.proofs.Math.Option.{some}
use Rattle.rows.specs.Below.{count_below}
use Rattle.sheet.specs.Head.{Limits}
use Rattle.sheet_headers.specs.Headers.{sheet_headers}
use Rattle.rules.specs.Owner.{number_of_row}
use Rattle.answers.specs.BaseRanges.{base_range_of}
use Rattle.answers.specs.Owner.{region_owner_of}
use Rattle.order.specs.Demand.{number_in}
use Rattle.trimmed.specs.Trimmed.{Remain, trimmed_sheet}
use Rattle.trimmed.specs.Answers.{Remains, new_number}

pub record TrimmedBeside (l : Limits) (remain : Remain) (s : List ℕ) : Type 0 where
  -- a range of bases, for a region that remains: the old answer, by the new number
  pub range : (given j : ℕ) → Remains remain s given j → (lowest highest : ℕ)
      → base_range_of l (trimmed_sheet remain s) given (new_number remain s given j) lowest highest ≡ base_range_of l s given (number_in s given j) lowest highest
  -- the owner of an address was initialization row j, which remains: it is the same region, in its new row
  pub owner : (given gpa j : ℕ) → (region_owner_of l s given gpa).answer ≡ number_of_row (sheet_headers s) (some j) → remain.initializations j ≡ true
      → (region_owner_of l (trimmed_sheet remain s) given gpa).answer ≡ number_of_row (sheet_headers s) (some (count_below j remain.initializations))
  -- it was dropped: no region owns the address
  pub dropped : (given gpa j : ℕ) → (region_owner_of l s given gpa).answer ≡ number_of_row (sheet_headers s) (some j) → remain.initializations j ≡ false
      → (region_owner_of l (trimmed_sheet remain s) given gpa).answer ≡ 0
  -- there was none: there is none
  pub none : (given gpa : ℕ) → (region_owner_of l s given gpa).answer ≡ 0 → (region_owner_of l (trimmed_sheet remain s) given gpa).answer ≡ 0
