-- What stands after a query's verdict, where neither it nor the mask is refused.
use Rattle.std.specs.Prelude.{ℕ, ◌≤◌, ◌<◌, ◌≡◌, false, List, ◌≢◌}
use Rattle.igvm_defs.specs.Refusals.{is_refusal}
use Rattle.sheet.specs.Head.{limits, initialization_rows}
use Rattle.sheet_headers.specs.Headers.{sheet_headers}
use Rattle.answers.specs.Verdict.{verdict_refusal}
use Rattle.by_start.specs.declared.KeptRegions.{KeptRegions}
use Rattle.keep.specs.Kept.{KeptOf}

-- the sheet is accepted, the mask is not 0, and the sheet's regions are kept
pub record KeptFor {N M : ℕ} (s : List ℕ) (given : ℕ) (kept : KeptRegions N M) : Type 0 where
  pub accepted : is_refusal (verdict_refusal limits s) ≡ false
  pub nonzero : given ≢ 0
  pub regions : KeptOf (sheet_headers s).platforms.count kept (sheet_headers s).initializations
  pub few : kept.regions.count ≤ N
  pub most : kept.regions.count ≤ initialization_rows

-- the same, and the order has a place for the last region too
pub record KeptWithPlaces {N M : ℕ} (s : List ℕ) (given : ℕ) (kept : KeptRegions N M) : Type 0 where
  pub kept_for : KeptFor s given kept
  pub places : kept.regions.count < M
