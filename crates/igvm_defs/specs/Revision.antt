-- The architecture and the page size of a file, by its revision.
use Rattle.std.specs.Prelude.{ℕ, Bool, true, false}
use Rattle.igvm_defs.specs.declared.Arch.{Arch}
use Rattle.igvm_defs.specs.declared.Arch.TheVariants.{X64, AArch64}
use Rattle.igvm_defs.specs.declared.IgvmRevision.{IgvmRevision}
use Rattle.igvm_defs.specs.declared.IgvmRevision.TheVariants.{V1, V2}

-- the one page size that files have
abbrev pub page_size : ℕ
page_size = 4096

-- revision 1 means X64 and that page size
abbrev pub arch_of : IgvmRevision → Arch
arch_of V1 = X64
arch_of (V2 arch size) = arch

abbrev pub page_size_of : IgvmRevision → ℕ
page_size_of V1 = page_size
page_size_of (V2 arch size) = size

abbrev pub is_x64 : Arch → Bool
is_x64 X64 = true
is_x64 AArch64 = false

abbrev pub is_aarch64 : Arch → Bool
is_aarch64 X64 = false
is_aarch64 AArch64 = true
