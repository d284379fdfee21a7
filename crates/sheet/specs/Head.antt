-- The head of a sheet, 16 bytes, and the limits.
use Rattle.std.specs.Prelude.{ℕ, ◌+◌, ◌*◌, Bool, cond, not, ◌&&◌, ◌||◌, List, leb, ltb, eqb, length}
use Rattle.le.specs.Le.{byte_at, le_at}
use Rattle.igvm_defs.specs.declared.Fault.{Fault}
use Rattle.igvm_defs.specs.declared.Arch.{Arch}
use Rattle.igvm_defs.specs.declared.Arch.TheVariants.{X64, AArch64}
use Rattle.igvm_defs.specs.declared.IgvmRevision.{IgvmRevision}
use Rattle.igvm_defs.specs.declared.IgvmRevision.TheVariants.{V1, V2}
use Rattle.igvm_defs.specs.Refusals.{fault, no_fault, refuse}
use Rattle.igvm_defs.specs.Revision.{page_size, page_size_of}
use Rattle.sheet.specs.declared.SheetHead.{SheetHead}

-- how many rows a list may have, and how many bytes a sheet
pub record Limits : Type 0 where
  pub platforms : ℕ
  pub initializations : ℕ
  pub directives : ℕ
  pub bytes : ℕ

-- ---- the limits in force

abbrev pub platform_rows : ℕ
platform_rows = 16

abbrev pub initialization_rows : ℕ
initialization_rows = 64

abbrev pub directive_rows : ℕ
directive_rows = 8192

abbrev pub sheet_bytes : ℕ
sheet_bytes = 67108864

unfoldable pub limits : Limits
limits = record { platforms = platform_rows; initializations = initialization_rows; directives = directive_rows; bytes = sheet_bytes }

-- ---- the head

unfoldable pub head_of : List ℕ → SheetHead
head_of s =
    record {
      revision = byte_at s 0;
      arch = byte_at s 1;
      reserved = le_at 2 s 2;
      page_size = le_at 4 s 4;
      platforms = le_at 2 s 8;
      initializations = le_at 2 s 10;
      directives = le_at 2 s 12;
      reserved2 = le_at 2 s 14;
    }

abbrev pub row_count : SheetHead → ℕ
row_count h = h.platforms + h.initializations + h.directives

-- how many rows stand before the directive rows
abbrev pub first_directive : List ℕ → ℕ
first_directive s = (head_of s).platforms + (head_of s).initializations

-- where the table of contents ends and the bodies begin
abbrev pub bodies_at : SheetHead → ℕ
bodies_at h = 16 + 8 * row_count h

-- revision 1 or 2, arch 0 or 1, zeroes; revision 1 has arch 0 and page size 0
unfoldable pub layout_ok : SheetHead → Bool
layout_ok h =
    (eqb h.revision 1 || eqb h.revision 2) && leb h.arch 1 && eqb h.reserved 0 && eqb h.reserved2 0
    && (not (eqb h.revision 1) || eqb h.arch 0 && eqb h.page_size 0)

-- no list over its limit, nor the sheet of n bytes
unfoldable pub within_limits : Limits → SheetHead → ℕ → Bool
within_limits l h n =
    leb h.platforms l.platforms && leb h.initializations l.initializations && leb h.directives l.directives
    && leb n l.bytes

-- what the head and the length of the sheet show
unfoldable pub start_fault : Limits → List ℕ → Fault
start_fault l s =
    refuse (ltb (length s) 16) (fault 1 0)
    (refuse (not (layout_ok (head_of s))) (fault 2 0)
    (refuse (not (within_limits l (head_of s) (length s))) (fault 3 0)
    (refuse (ltb (length s) (bodies_at (head_of s))) (fault 1 0)
    no_fault)))

abbrev pub arch_code : ℕ → Arch
arch_code code = cond (eqb code 0) X64 AArch64

unfoldable pub revision_of : SheetHead → IgvmRevision
revision_of h = cond (eqb h.revision 1) V1 (V2 (arch_code h.arch) h.page_size)

-- 7, with the page size
unfoldable pub page_size_fault : SheetHead → Fault
page_size_fault h = refuse (not (eqb (page_size_of (revision_of h)) page_size)) (fault 7 (page_size_of (revision_of h))) no_fault
