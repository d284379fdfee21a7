-- The record of the platform rows read so far, and the rows that it stands for.
use Rattle.std.specs.Prelude.{ℕ, ◌+◌, ◌<◌, ◌≤◌, ◌≡◌, ⊤, Bool, eqb, get_or, Result}
use Rattle.sheet.specs.Head.{platform_rows}
use Rattle.rows.specs.Below.{last_below}
use Rattle.rows.specs.Rows.{Rows, before}
use Rattle.igvm_defs.specs.declared.Arch.{Arch}
use Rattle.igvm_defs.specs.declared.Fault.{Fault}
use Rattle.igvm_defs.specs.Refusals.{Told}
use Rattle.platform_header.specs.declared.IgvmPlatformHeader.{IgvmPlatformHeader}
use Rattle.platform_check.specs.declared.Platforms.{Platforms}
use Rattle.rules.specs.{Options.passes, Platforms.platform_fault}

-- the record holds the masks and the types of the rows, in their order
pub record HoldsPlatforms (r : Platforms) (xs : Rows IgvmPlatformHeader) : Type 0 where
  pub count : r.count ≡ xs.count
  pub room : xs.count ≤ platform_rows
  pub mask : (i : ℕ) → i < xs.count → get_or r.mask i 0 ≡ (xs.row i).compatibility_mask
  pub type : (i : ℕ) → i < xs.count → get_or r.types i 0 ≡ (xs.row i).platform_type

-- the last entry with this mask is CCA
unfoldable pub last_type_is_cca : Platforms → ℕ → Bool
last_type_is_cca r mask = passes (λ i. eqb (get_or r.types i 0) 6) (last_below r.count (λ i. eqb (get_or r.mask i 0) mask))

-- what a step at row i answers: the row's fault, and the record with the row
pub record PlatformStepped (arch : Arch) (xs : Rows IgvmPlatformHeader) (i : ℕ) (told : Result ⊤ Fault) (r : Platforms) : Type 0 where
  pub fault : Told told (platform_fault arch (before i xs) (xs.row i))
  pub next : HoldsPlatforms r (before (i + 1) xs)
