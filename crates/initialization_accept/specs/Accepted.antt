-- How far the initialization rows of a byte string are in order, and the regions of the rows passed.
use Rattle.std.specs.Prelude.{ℕ, ◌+◌, ◌-◌, ◌≤◌, false, List, ◌≡◌, length, set}
use Rattle.std.proofs.Math.Option.{Option, none, some}
use Rattle.rows.specs.Below.{any_below}
use Rattle.rows.specs.Rows.{before}
use Rattle.igvm_defs.specs.Refusals.{is_fault}
use Rattle.sheet.specs.declared.Cursor.{Cursor}
use Rattle.sheet.specs.Head.{head_of}
use Rattle.sheet.specs.Walk.{ReadTo}
use Rattle.sheet_headers.specs.Headers.{sheet_headers}
use Rattle.rules.specs.declared.Region.{Region}
use Rattle.rules.specs.Verdict.{initialization_faults}
use Rattle.reloc_regions.specs.declared.RelocRegions.{RelocRegions}
use Rattle.reloc_regions.specs.Regions.{pushed, Lengths}
use Rattle.clashes.specs.Clashes.{any_tables_share, any_overlap}
use Rattle.by_start.specs.declared.KeptRegions.{KeptRegions}
use Rattle.by_start.specs.ByStart.{ByStart, Ordered}
use Rattle.initialization_check.specs.Record.{HoldsRegions, HoldsRows}

-- no initialization row before the cursor's has a fault, of reading or by the rules, and the record has the regions of these rows, each with its row, and in order of start
pub record InitializationsAccepted {N : ℕ} (s : List ℕ) (held : RelocRegions N) (numbers next : List ℕ) (c : Cursor) : Type 0 where
  pub read : ReadTo s c
  pub low : (head_of s).platforms ≤ c.row
  pub high : c.row ≤ (head_of s).platforms + (head_of s).initializations
  pub good : any_below (c.row - (head_of s).platforms) (λ i. is_fault (initialization_faults (sheet_headers s) i)) ≡ false
  pub holds : HoldsRegions held (before (c.row - (head_of s).platforms) (sheet_headers s).initializations)
  pub rows : HoldsRows (head_of s).platforms numbers held (before (c.row - (head_of s).platforms) (sheet_headers s).initializations)
  pub order : ByStart next held.gpa held.count

-- the record has the region, which clashes with none of its own, behind them, with its row's number, and still in order of start
pub record KeptBehind {N M : ℕ} (old : KeptRegions N M) (new : Region) (number : ℕ) (kept : KeptRegions N M) : Type 0 where
  pub apart : (any_tables_share new old.regions.mask old.regions.page_table old.regions.count ≡ false)
      × (any_overlap new old.regions.mask old.regions.gpa old.regions.size old.regions.count ≡ false)
  pub regions : kept.regions ≡ pushed old.regions new
  pub rows : kept.rows ≡ set old.rows old.regions.count number
  pub lengths : Lengths kept.regions × (length kept.rows ≡ N)
  pub ordered : Ordered kept.order.next kept.regions.gpa kept.regions.size kept.regions.count kept.order

-- the record after a row, which has this region if it has one
abbrev pub RowKept : {N M : ℕ} → KeptRegions N M → Option Region → ℕ → KeptRegions N M → Type 0
RowKept old none number kept = kept ≡ old
RowKept old (some new) number kept = KeptBehind old new number kept
