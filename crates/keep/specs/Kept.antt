-- What stands after the verdict on an accepted file: its regions, each with its row, in the order of the rows, their order of start beside it, and the masks of its contexts.
use Rattle.std.specs.Prelude.{ℕ, List, ◌≡◌, length}
use Rattle.rows.specs.Rows.{Rows}
use Rattle.initialization_header.specs.declared.IgvmInitializationHeader.{IgvmInitializationHeader}
use Rattle.sheet.specs.Head.{head_of}
use Rattle.sheet_headers.specs.Headers.{sheet_headers}
use Rattle.reloc_regions.specs.declared.RelocRegions.{RelocRegions}
use Rattle.by_start.specs.declared.KeptRegions.{KeptRegions}
use Rattle.by_start.specs.ByStart.{ByStart}
use Rattle.initialization_check.specs.Record.{HoldsRegions, HoldsRows}
use Rattle.directive_check.specs.Record.{HoldsContexts}

pub record Kept {N : ℕ} (s : List ℕ) (held : RelocRegions N) (numbers next contexts : List ℕ) : Type 0 where
  pub regions : HoldsRegions held (sheet_headers s).initializations
  pub rows : HoldsRows (head_of s).platforms numbers held (sheet_headers s).initializations
  -- in order of start
  pub order : ByStart next held.gpa held.count
  pub masks : HoldsContexts contexts (sheet_headers s).directives
  -- one mask for each VTL
  pub vtls : length contexts ≡ 3

-- the regions of these rows, each with its row, and in order of start; `first` rows of the sheet stand before them
pub record KeptOf {N M : ℕ} (first : ℕ) (kept : KeptRegions N M) (xs : Rows IgvmInitializationHeader) : Type 0 where
  pub regions : HoldsRegions kept.regions xs
  pub rows : HoldsRows first kept.rows kept.regions xs
  pub order : ByStart kept.order.next kept.regions.gpa kept.regions.count
