-- Beside demand 3's conclusion: where accepted, the row that owns an address in run B is the partner of the row that owns it in run A, and the indexes of a mask's regions have
-- the same starts and sizes. That is so for every mask: 0 is refused in both runs.
use Rattle.std.specs.Prelude.{ℕ, ◌/◌, ◌<◌, ◌≡◌, List, ◌↔◌, length}
use Rattle.std.proofs.Math.Option.{some}
use Rattle.sheet.specs.Head.{Limits}
use Rattle.sheet_headers.specs.Headers.{sheet_headers}
use Rattle.rules.specs.Owner.{number_of_row}
use Rattle.answers.specs.Owner.{region_owner_of, region_index_of, index_after, start_in, size_in}
use Rattle.order.specs.Reordered.{Reordered}
use Rattle.order.specs.Demand.{Accepted}

pub record SameOwners (l : Limits) (a b : List ℕ) (R : Reordered a b) : Type 0 where
  -- both lookups end in the same refusal, 35, or in none
  pub refusal : Accepted l a → (given gpa : ℕ) → (region_owner_of l a given gpa).refusal ≡ (region_owner_of l b given gpa).refusal
  -- the owner is initialization row i, from 0, in run A: it is i's partner in run B
  pub owner : Accepted l a → (given gpa i : ℕ) → (region_owner_of l a given gpa).answer ≡ number_of_row (sheet_headers a) (some i)
      → (region_owner_of l b given gpa).answer ≡ number_of_row (sheet_headers b) (some (R.initializations.to i))
  -- none in one run exactly if none in the other
  pub none : Accepted l a → (given gpa : ℕ) → ((region_owner_of l a given gpa).answer ≡ 0) ↔ ((region_owner_of l b given gpa).answer ≡ 0)
  -- with equally many words lent, both indexes end in the same refusal, 35 or 37, or both have the same count
  pub index : Accepted l a → (given bytes bytes' : ℕ) → bytes / 8 ≡ bytes' / 8 → region_index_of l a given bytes ≡ region_index_of l b given bytes'
  -- and where they are not refused, x and y being the bytes lent, the same start and size at each place
  pub words : Accepted l a → (given : ℕ) (x y : List ℕ) → length x / 8 ≡ length y / 8 → (k : ℕ) → k < (region_index_of l a given (length x)).answer
      → (start_in (index_after l a given x) k ≡ start_in (index_after l b given y) k) × (size_in (index_after l a given x) k ≡ size_in (index_after l b given y) k)
