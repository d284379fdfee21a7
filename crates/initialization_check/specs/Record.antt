-- The rows that a record of regions stands for, in whatever order it keeps them, and what the check of a row answers.
use Rattle.std.specs.Prelude.{ℕ, ◌+◌, ◌<◌, ◌≤◌, ◌≡◌, Bool, true, false, List, get_or, ⊤, Result, Some, None}
use Rattle.std.specs.Prelude as rust
use Rattle.std.proofs.Math.Option.{Option, none, some}
use Rattle.rows.specs.Below.{any_below, count_below}
use Rattle.rows.specs.Rows.{Rows, any, before, count_of}
use Rattle.igvm_defs.specs.declared.Arch.{Arch}
use Rattle.igvm_defs.specs.declared.Fault.{Fault}
use Rattle.igvm_defs.specs.Refusals.{fault, no_fault, refuse, Told}
use Rattle.addresses.specs.Addresses.{ends_beyond}
use Rattle.platform_header.specs.declared.IgvmPlatformHeader.{IgvmPlatformHeader}
use Rattle.initialization_header.specs.declared.IgvmInitializationHeader.{IgvmInitializationHeader}
use Rattle.rules.specs.declared.Region.{Region}
use Rattle.reloc_regions.specs.declared.RelocRegions.{RelocRegions}
use Rattle.reloc_regions.specs.Regions.{entry}
use Rattle.clashes.specs.Clashes.{any_tables_share, any_overlap}
use Rattle.by_start.specs.declared.Order.{Order}
use Rattle.by_start.specs.ByStart.{PlacedAt, Searched}
use Rattle.initialization_check.specs.declared.NewRegion.{NewRegion}
use Rattle.rules.specs.Regions.{region_of, region_passes, tables_share, overlap}
use Rattle.rules.specs.Initializations.{wrong_policy_arch, without_cca, refuse_bit, initialization_fault}
use Rattle.std.specs.Prelude.{eqb}

-- some region of the record passes
abbrev pub any_region : {N : ℕ} → (Region → Bool) → RelocRegions N → Bool
any_region p r = any_below r.count (λ i. p (entry r i))

-- the record has no more regions than there are rows, and a test finds a region in it exactly where a row's region passes
pub record HoldsRegions {N : ℕ} (r : RelocRegions N) (xs : Rows IgvmInitializationHeader) : Type 0 where
  pub count : r.count ≤ xs.count
  pub same : (p : Region → Bool) → any_region p r ≡ any (region_passes p) xs

-- region e of the record is that of row i of the list, whose number in the sheet stands at e; `first` rows of the sheet stand before the list
pub record RegionOfRow {N : ℕ} (first : ℕ) (rows : List ℕ) (r : RelocRegions N) (xs : Rows IgvmInitializationHeader) (e i : ℕ) : Type 0 where
  pub below : i < xs.count
  pub number : get_or rows e 0 ≡ first + i + 1
  pub region : region_of (xs.row i) ≡ some (entry r e)
  -- a test finds a region before it in the record exactly where the region of a row before row i passes
  pub earlier : (p : Region → Bool) → any_below e (λ d. p (entry r d)) ≡ any (region_passes p) (before i xs)

-- the rows of a record's regions
pub record HoldsRows {N : ℕ} (first : ℕ) (rows : List ℕ) (r : RelocRegions N) (xs : Rows IgvmInitializationHeader) : Type 0 where
  -- region e is that of the row whose number in the sheet, from 1, stands at e, and the regions before it are those of the rows before that one
  pub each : (e : ℕ) → e < r.count → (i : ℕ) × RegionOfRow first rows r xs e i
  -- as many regions pass a test as rows' regions do
  pub counts : (p : Region → Bool) → count_below r.count (λ e. p (entry r e)) ≡ count_of (region_passes p) xs

-- 24 and 25: a CcaPolicy by the architecture and the platforms
unfoldable pub policy_fault : Arch → Rows IgvmPlatformHeader → IgvmInitializationHeader → Fault
policy_fault arch platforms h =
    refuse (wrong_policy_arch arch h) (fault 24 17)
    (refuse_bit (without_cca platforms h)
    no_fault)

-- 26 to 29: a region, where it is known whether a page table before it shares a bit with it, and whether a region before it overlaps it
unfoldable pub clash_fault : Region → Bool → Bool → Fault
clash_fault new shares overlaps =
    refuse shares (fault 26 0)
    (refuse (eqb new.size 0) (fault 27 0)
    (refuse (ends_beyond new.gpa new.size) (fault 28 0)
    (refuse overlaps (fault 29 0)
    no_fault)))

-- whether page tables of earlier rows share a bit with a region, and whether regions of theirs overlap it
abbrev pub Clashes : Option Region → Bool → Bool → Rows IgvmInitializationHeader → Type 0
Clashes o shares overlaps earlier =
    (new : Region) → o ≡ some new → (shares ≡ any (region_passes (tables_share new)) earlier) × (overlaps ≡ any (region_passes (overlap new)) earlier)

-- the regions of the record clash with a region exactly where the rows' regions do
pub record HoldsClashes {N : ℕ} (r : RelocRegions N) (xs : Rows IgvmInitializationHeader) : Type 0 where
  pub tables_share_lem : (new : Region) → any_tables_share new r.mask r.page_table r.count ≡ any (region_passes (tables_share new)) xs
  pub overlaps : (new : Region) → any_overlap new r.mask r.gpa r.size r.count ≡ any (region_passes (overlap new)) xs

-- a new region's place in order of start, and a place among the regions at which a search for it began
pub record Placed {N M : ℕ} (o : Order M) (r : RelocRegions N) (new : NewRegion) : Type 0 where
  pub at : PlacedAt o.next r.gpa r.count new.region.gpa new.at
  pub from : new.from ≤ r.count

-- the region of a new one, where there is one
abbrev pub region_in : rust.Option NewRegion → Option Region
region_in None = none
region_in (Some new) = some new.region

-- what the check of a row answers: the row's fault, and its region where it has one
pub record InitializationStepped (arch : Arch) (ps : Rows IgvmPlatformHeader) (earlier : Rows IgvmInitializationHeader) (h : IgvmInitializationHeader) (told : Result ⊤ Fault) (new : rust.Option NewRegion) : Type 0 where
  pub fault : Told told (initialization_fault arch ps earlier h)
  pub region : region_of h ≡ region_in new

-- a new region's place, where there is one
abbrev pub AllPlaced : {N M : ℕ} → Order M → RelocRegions N → rust.Option NewRegion → Type 0
AllPlaced o r None = ⊤
AllPlaced o r (Some new) = Placed o r new

-- what the search for a new region's place tells, where there is one, and a place among the regions at which it began
abbrev pub AllSearched : {N M : ℕ} → Order M → RelocRegions N → rust.Option NewRegion → Type 0
AllSearched o r None = ⊤
AllSearched o r (Some new) = Searched new.region r.mask r.gpa r.size o.next r.count new.at × (new.from ≤ r.count)
