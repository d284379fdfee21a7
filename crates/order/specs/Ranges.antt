-- Beside demand 3's conclusion: where accepted, what is said of a base known only as a range is the same of paired regions, each by its number in its own run, for every
-- lowest and highest base.
use Rattle.std.specs.Prelude.{ℕ, ◌≡◌, List}
use Rattle.sheet.specs.Head.{Limits}
use Rattle.answers.specs.BaseRanges.{base_range_of}
use Rattle.order.specs.Reordered.{Reordered}
use Rattle.order.specs.Demand.{Accepted, IsRegion, number_in}

abbrev pub SameRanges : Limits → (a b : List ℕ) → Reordered a b → Type 0
SameRanges l a b R =
    Accepted l a → (given i : ℕ) → IsRegion a given i → (lowest highest : ℕ)
    → base_range_of l a given (number_in a given i) lowest highest ≡ base_range_of l b given (number_in b given (R.initializations.to i)) lowest highest
