-- When the headers of a file are accepted, said of rows by their indexes. `accepted_says` in proofs/Acceptance.antt proves that none of the
-- refusals 8 to 34 applies exactly when this holds.
use Rattle.std.specs.Prelude.{ℕ, ◌^◌, ◌<◌}
use mathlib.Core.{Bool.{true, false}, Option.some, Path.◌≡◌}
use Rattle.rows.specs.Rows.{any, before, Apart, Once}
use Rattle.igvm_defs.specs.Refusals.{is_fault, is_refusal}
use Rattle.initialization_header.specs.Fields.{initialization_fields}
use Rattle.directive_header.specs.Fields.{directive_fields, area_of}
use Rattle.masks.specs.Masks.{has_bit}
use Rattle.rules.specs.{declared.Region.Region, Headers.Headers, Regions.{region_of, regions_clash, tables_share, overlap, table_holds}, Platforms.{own_platform_fault, same_type, last_is_cca}, Initializations.own_initialization_fault, Directives.{own_directive_fault, allocates, is_allocated, is_context}, Verdict.headers_refusal}

-- none of 8 to 34 applies
abbrev pub NotRefused : Headers → Type 0
NotRefused f = is_refusal (headers_refusal f) ≡ false

pub record Accepted (f : Headers) : Type 0 where
  -- 8 to 13: every platform header is sound by itself
  pub platform : (i : ℕ) → i < f.platforms.count → is_fault (own_platform_fault f.arch (f.platforms.row i)) ≡ false
  -- 14: no two platforms have one type
  pub types : Apart same_type f.platforms
  -- 15: there is a platform
  pub some_platform : 0 < f.platforms.count
  -- 16 to 24, 27, 28: every initialization header is sound by itself
  pub initialization : (i : ℕ) → i < f.initializations.count → is_fault (own_initialization_fault f.arch (f.initializations.row i)) ≡ false
  -- 25: of every bit of a CcaPolicy's mask, the last platform whose mask is that bit is CCA
  pub cca : (i : ℕ) → i < f.initializations.count → (initialization_fields (f.initializations.row i)).kind ≡ 17
      → (k : ℕ) → k < 32 → has_bit (initialization_fields (f.initializations.row i)).mask k ≡ true → last_is_cca f.platforms (2 ^ k) ≡ true
  -- 26: no two page tables share a mask bit
  pub tables : Apart (regions_clash tables_share) f.initializations
  -- 29: no two regions of either kind overlap under a shared mask bit
  pub regions : Apart (regions_clash overlap) f.initializations
  -- 21, 22, 24, 30, 31: every directive header is sound by itself
  pub directive : (i : ℕ) → i < f.directives.count → is_fault (own_directive_fault f.arch (f.directives.row i)) ≡ false
  -- 32: an area is allocated once
  pub allocated : (area : ℕ) → Once (allocates area) f.directives
  -- 32: and every other row that names it, an insert too, finds it allocated by an earlier row and inserted by none
  pub named : (i area : ℕ) → i < f.directives.count → area_of (f.directives.row i) ≡ some area → allocates area (f.directives.row i) ≡ false
      → is_allocated (before i f.directives) area ≡ true
  -- 33: no insert is at an address in a page table, under a shared bit
  pub inserts : (i : ℕ) → i < f.directives.count → (directive_fields (f.directives.row i)).kind ≡ 50
      → (j : ℕ) (r : Region) → j < f.initializations.count → region_of (f.initializations.row j) ≡ some r
      → table_holds (directive_fields (f.directives.row i)).mask (directive_fields (f.directives.row i)).gpa r ≡ false
  -- 34: every region of either kind has VP index 0, and some VBS context of its VTL shares a mask bit with it
  pub vp : (i : ℕ) (r : Region) → i < f.initializations.count → region_of (f.initializations.row i) ≡ some r → r.vp_index ≡ 0
  pub context : (i : ℕ) (r : Region) → i < f.initializations.count → region_of (f.initializations.row i) ≡ some r
      → any (is_context r.vtl r.mask) f.directives ≡ true
