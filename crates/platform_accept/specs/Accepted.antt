-- How far the platform rows of a byte string are in order, and what the rows passed tell.
use Rattle.std.specs.Prelude.{ℕ, ◌^◌, ◌<◌, ◌≤◌, true, false, List, length, ◌≡◌}
use Rattle.rows.specs.Below.{any_below}
use Rattle.rows.specs.Rows.{Rows, before}
use Rattle.igvm_defs.specs.{declared.Arch.Arch, Refusals.is_fault}
use Rattle.masks.specs.Masks.{has_bit}
use Rattle.platform_header.specs.declared.IgvmPlatformHeader.{IgvmPlatformHeader}
use Rattle.platform_header.specs.Platforms.{supported_platform_of}
use Rattle.sheet.specs.declared.Cursor.{Cursor}
use Rattle.sheet.specs.Head.{head_of}
use Rattle.sheet.specs.Walk.{ReadTo}
use Rattle.sheet_headers.specs.Headers.{sheet_headers}
use Rattle.rules.specs.Platforms.{own_platform_fault, last_is_cca}
use Rattle.rules.specs.Verdict.{platform_faults}

-- a row's kind and body say a platform in 16 bytes that has no fault by itself
pub record InOrder (a : Arch) (kind : ℕ) (b : List ℕ) (h : IgvmPlatformHeader) : Type 0 where
  pub kind_is : kind ≡ 1
  pub length_is : length b ≡ 16
  pub says : h ≡ supported_platform_of b
  pub sound : is_fault (own_platform_fault a h) ≡ false

-- of every bit of the mask, the last platform whose mask is that bit is CCA
abbrev pub HoldsCca : ℕ → Rows IgvmPlatformHeader → Type 0
HoldsCca cca xs = (k : ℕ) → k < 32 → has_bit cca k ≡ true → last_is_cca xs (2 ^ k) ≡ true

-- no platform row before the cursor's has a fault, of reading or by the rules
pub record PlatformsAccepted (s : List ℕ) (c : Cursor) (cca : ℕ) : Type 0 where
  pub read : ReadTo s c
  pub high : c.row ≤ (head_of s).platforms
  pub good : any_below c.row (λ i. is_fault (platform_faults (sheet_headers s) i)) ≡ false
  pub holds : HoldsCca cca (before c.row (sheet_headers s).platforms)
