-- An initialization row by its kind and its body, whatever initialization rows stand before it.
use Rattle.std.specs.Prelude.{ℕ, true, false, List, ◌≡◌, length}
use Rattle.std.proofs.Math.Option.{Option, none, some}
use Rattle.rows.specs.Rows.{Rows}
use Rattle.igvm_defs.specs.declared.Arch.{Arch}
use Rattle.igvm_defs.specs.Kinds.{initialization_list, kind_of, length_ok}
use Rattle.igvm_defs.specs.Refusals.{is_fault}
use Rattle.sheet.specs.Read.{codes_ok}
use Rattle.platform_header.specs.declared.IgvmPlatformHeader.{IgvmPlatformHeader}
use Rattle.initialization_header.specs.Initializations.{initialization_of}
use Rattle.rules.specs.declared.Region.{Region}
use Rattle.rules.specs.Regions.{region_of}
use Rattle.rules.specs.Initializations.{without_cca, own_initialization_fault}
use Rattle.initialization_row.specs.declared.Row.{Row}
use Rattle.initialization_row.specs.declared.Row.TheVariants as row

-- the region of a row in order, where it has one
abbrev pub region_in_row : Row → Option Region
region_in_row row.Policy = none
region_in_row (row.Region r) = some r

-- the row has no fault but one that an earlier row may give it, and this is its region where it has one
pub record InOrder (arch : Arch) (platforms : Rows IgvmPlatformHeader) (kind : ℕ) (b : List ℕ) (r : Row) : Type 0 where
  pub list : (kind_of kind).list ≡ initialization_list
  pub long : length_ok (kind_of kind) (length b) ≡ true
  pub codes : codes_ok kind b ≡ true
  pub own : is_fault (own_initialization_fault arch (initialization_of kind b)) ≡ false
  pub cca : without_cca platforms (initialization_of kind b) ≡ none
  pub region : region_of (initialization_of kind b) ≡ region_in_row r
