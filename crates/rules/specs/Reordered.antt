-- Demand 3 on headers: two files whose rows pair off one to one within each list, and what they then answer alike.
use Rattle.std.specs.Prelude.{ℕ, ◌<◌}
use mathlib.Core.{Bool.true, Logic.{◌≢◌, ◌↔◌}, Option.some, Path.◌≡◌}
use Rattle.rows.specs.{Rows.{Rows, before, count_of}, Paired.{Paired, Free}}
use Rattle.platform_header.specs.declared.IgvmPlatformHeader.{IgvmPlatformHeader}
use Rattle.initialization_header.specs.declared.IgvmInitializationHeader.{IgvmInitializationHeader}
use Rattle.directive_header.specs.{declared.IgvmDirectiveHeader.IgvmDirectiveHeader, Fields.area_of}
use Rattle.rules.specs.{Headers.Headers, Accepted.NotRefused, Relocations.{is_relocatable, region_count, region_at, page_table_at}}

-- ---- which rows stand in the same order in both files

-- platform rows of equal mask
abbrev pub SameMask : IgvmPlatformHeader → IgvmPlatformHeader → Type 0
SameMask p q = p.compatibility_mask ≡ q.compatibility_mask

-- directive rows naming one area: kinds 33 to 43 and 50 with equal area field
abbrev pub SameArea : IgvmDirectiveHeader → IgvmDirectiveHeader → Type 0
SameArea d e = (area : ℕ) × (area_of d ≡ some area) × (area_of e ≡ some area)

-- the same architecture and the same headers, whatever order each list comes in; only the rows above keep their order
pub record Reordered (f g : Headers) : Type 0 where
  pub arch : f.arch ≡ g.arch
  pub platforms : Paired SameMask f.platforms g.platforms
  pub initializations : Paired Free f.initializations g.initializations
  pub directives : Paired SameArea f.directives g.directives

-- ---- what both files answer

-- the number of row i among the mask's regions: from 0, in header order
abbrev pub region_number : Rows IgvmInitializationHeader → ℕ → ℕ → ℕ
region_number initializations given i = count_of (is_relocatable given) (before i initializations)

pub record SameAnswers (f g : Headers) (R : Reordered f g) : Type 0 where
  -- one is accepted exactly when the other is
  pub accepted : NotRefused f ↔ NotRefused g
  -- the same number of regions
  pub count : (given : ℕ) → region_count f.initializations given ≡ region_count g.initializations given
  -- paired regions, each by its number in its own file, are the same in all that a query answers
  pub region : (given i : ℕ) → i < f.initializations.count → is_relocatable given (f.initializations.row i) ≡ true
      → region_at f.initializations given (region_number f.initializations given i)
      ≡ region_at g.initializations given (region_number g.initializations given (R.initializations.to i))
  -- where accepted: the same page-table region or none
  pub table : NotRefused f → (given : ℕ) → given ≢ 0 → page_table_at f.initializations given ≡ page_table_at g.initializations given
