-- The strict rule: for each bit of a region's mask, page-table regions included, there is a VBS context of the region's VTL with that bit. What is against it is
-- 38, which comes after every refusal of the verdict.
use Rattle.std.specs.Prelude.{ℕ, ◌^◌, ◌<◌}
use mathlib.Core.{Bool.{true, not}, Option.{Option, none, some}, Path.◌≡◌}
use Rattle.rows.specs.Rows.{Rows, any}
use Rattle.igvm_defs.specs.{declared.Fault.Fault, declared.Refusal.Refusal, Refusals.{fault, no_fault, first_fault}}
use Rattle.initialization_header.specs.declared.IgvmInitializationHeader.{IgvmInitializationHeader}
use Rattle.directive_header.specs.declared.IgvmDirectiveHeader.{IgvmDirectiveHeader}
use Rattle.masks.specs.Masks.{has_bit, individual_masks, first_mask}
use Rattle.rules.specs.{declared.Region.Region, Options.then, Headers.Headers, Regions.region_of, Directives.is_context}

-- the lowest bit of the region's mask that no VBS context of its VTL has, as a mask
unfoldable pub bit_without_context : Rows IgvmDirectiveHeader → Region → Option ℕ
bit_without_context directives r = first_mask (λ bit. not (any (is_context r.vtl bit) directives)) (individual_masks r.mask)

-- 38, with the bit
abbrev pub bit_fault : Option ℕ → Fault
bit_fault none = no_fault
bit_fault (some bit) = fault 38 bit

-- of a header that has a region, of either kind
unfoldable pub strict_fault : Rows IgvmDirectiveHeader → IgvmInitializationHeader → Fault
strict_fault directives h = bit_fault (then (region_of h) (bit_without_context directives))

-- of a file: the first such region, by its row
unfoldable pub contexts_refusal : Headers → Refusal
contexts_refusal f = first_fault f.platforms.count f.initializations.count (λ i. strict_fault f.directives (f.initializations.row i))

-- ---- the rule by indexes. `contexts_say` in proofs/StrictLaws.antt proves that 38 does not apply exactly when every bit has its context, `contexts_name` that where it
-- ---- applies, its row and its detail are these

-- bit k of region r has its context: some directive row is a VBS context of the region's VTL with that bit
abbrev pub HasContext : Headers → Region → ℕ → Type 0
HasContext f r k = (j : ℕ) × (j < f.directives.count) × (is_context r.vtl (2 ^ k) (f.directives.row j) ≡ true)

-- so has each bit of the mask of each region
abbrev pub EveryBit : Headers → Type 0
EveryBit f =
    (i : ℕ) (r : Region) → i < f.initializations.count → region_of (f.initializations.row i) ≡ some r
    → (k : ℕ) → k < 32 → has_bit r.mask k ≡ true → HasContext f r k

-- what 38 names where it applies: bit k of region r, that of initialization row i
pub record Named (f : Headers) (i : ℕ) (r : Region) (k : ℕ) : Type 0 where
  pub below : i < f.initializations.count
  pub region : region_of (f.initializations.row i) ≡ some r
  pub bit : (k < 32) × (has_bit r.mask k ≡ true)
  -- the bit has no context
  pub lacking : HasContext f r k → ⊥
  -- each lower bit of the region's mask has one
  pub lower : (m : ℕ) → m < k → has_bit r.mask m ≡ true → HasContext f r m
  -- and so has each bit of each region before it
  pub earlier : (j : ℕ) (q : Region) → j < i → region_of (f.initializations.row j) ≡ some q → (m : ℕ) → m < 32 → has_bit q.mask m ≡ true → HasContext f q m
