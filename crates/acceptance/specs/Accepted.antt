-- How far the pass that only accepts has come.
use Rattle.std.specs.Prelude.{ℕ, ◌+◌, false, List, ◌≡◌}
use Rattle.igvm_defs.specs.Refusals.{is_refusal}
use Rattle.sheet.specs.declared.Cursor.{Cursor}
use Rattle.sheet.specs.Head.{head_of}
use Rattle.sheet.specs.Read.{rows_refusal}
use Rattle.sheet.specs.Walk.{ReadTo}
use Rattle.rules.specs.Verdict.{platforms_refusal, initializations_refusal}
use Rattle.rules.specs.Accepted.{NotRefused}
use Rattle.sheet_headers.specs.Headers.{sheet_headers}
use Rattle.reloc_regions.specs.declared.RelocRegions.{RelocRegions}
use Rattle.by_start.specs.declared.KeptRegions.{KeptRegions}
use Rattle.by_start.specs.ByStart.{ByStart}
use Rattle.initialization_check.specs.Record.{HoldsRegions, HoldsRows}
use Rattle.keep.specs.Kept.{Kept}

-- none of 1 to 6 and of 8 to 34 applies to the rows, and what was found of them is kept
pub record RowsAccepted (s : List ℕ) {N : ℕ} (held : RelocRegions N) (numbers next contexts : List ℕ) : Type 0 where
  pub read : is_refusal (rows_refusal s) ≡ false
  pub headers : NotRefused (sheet_headers s)
  pub kept : Kept s held numbers next contexts

-- the platform rows and the initialization rows are in order, and their regions are kept, each with its row, and in order of start
pub record ListsAccepted (s : List ℕ) {N M : ℕ} (kept : KeptRegions N M) (c : Cursor) : Type 0 where
  pub read : ReadTo s c
  pub row : c.row ≡ (head_of s).platforms + (head_of s).initializations
  pub platforms : is_refusal (platforms_refusal (sheet_headers s)) ≡ false
  pub initializations : is_refusal (initializations_refusal (sheet_headers s)) ≡ false
  pub holds : HoldsRegions kept.regions (sheet_headers s).initializations
  pub rows : HoldsRows (head_of s).platforms kept.rows kept.regions (sheet_headers s).initializations
  pub order : ByStart kept.order.next kept.regions.gpa kept.regions.count
