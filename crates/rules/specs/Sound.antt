-- What holds of the regions of an accepted file, of either kind (18, 19).
use Rattle.std.specs.Prelude.{ℕ, ◌<◌}
use mathlib.Core.{Bool.true, Logic.◌≢◌, Option.some, Path.◌≡◌}
use Rattle.masks.specs.Masks.{matches}
use Rattle.addresses.specs.Addresses.{contains}
use Rattle.rules.specs.{declared.Region.Region, Headers.Headers, Regions.region_of, Directives.is_context}

-- r is the region of initialization row i, and its mask holds every bit of the mask given
pub record MatchingRegion (f : Headers) (given i : ℕ) (r : Region) : Type 0 where
  pub below : i < f.initializations.count
  pub region : region_of (f.initializations.row i) ≡ some r
  pub matching : matches given r.mask ≡ true

-- for every nonzero mask
pub record Sound (f : Headers) : Type 0 where
  -- no address lies in two of its regions, page-table region included
  pub apart : (given : ℕ) → given ≢ 0 → (i j : ℕ) (r q : Region) → MatchingRegion f given i r → MatchingRegion f given j q → i ≢ j
      → (gpa : ℕ) → contains r.gpa r.size gpa ≡ true → contains q.gpa q.size gpa ≡ true → ⊥
  -- each has VP index 0
  pub vp : (given : ℕ) → given ≢ 0 → (i : ℕ) (r : Region) → MatchingRegion f given i r → r.vp_index ≡ 0
  -- and a VBS context of its VTL sharing a mask bit with it
  pub context : (given : ℕ) → given ≢ 0 → (i : ℕ) (r : Region) → MatchingRegion f given i r
      → (j : ℕ) × (j < f.directives.count) × (is_context r.vtl r.mask (f.directives.row j) ≡ true)
