-- Image B by its rows: the sheet made of them.
use Rattle.std.specs.Prelude.{ℕ, List, [], ◌∷◌, ◌++◌, get_or}
use Rattle.le.specs.Bytes.{le_bytes}
use Rattle.sheet_of.specs.SheetOf.{Row, sheet_of}
use Rattle.sheet_of.specs.Lists.{row_of}

-- NATIVE with its version, mask 1, highest VTL 0, boundary 0
abbrev pub platform_b : Row
platform_b = row_of 1 (le_bytes 4 1 ++ 0 ∷ 0 ∷ le_bytes 2 1 ++ le_bytes 8 0)

-- mask 1, alignment 0x1000, gpa 0x100000, size 0x2000, minimum 0, maximum 0x200000; flags, VP index, VTL 0
abbrev pub region_b : Row
region_b = row_of 18 (le_bytes 4 1 ++ le_bytes 8 0x1000 ++ le_bytes 8 0x100000 ++ le_bytes 8 0x2000 ++ le_bytes 8 0 ++ le_bytes 8 0x200000 ++ 0 ∷ le_bytes 2 0 ++ 0 ∷ [])

-- X64Vbs: mask 1, VTL 0, no opaque bytes
abbrev pub context_b : Row
context_b = row_of 47 (le_bytes 4 1 ++ 0 ∷ [])

-- revision 1, and a row in each list
unfoldable pub made_b : List ℕ
made_b =
    sheet_of (record { revision = 1; arch = 0; reserved = 0; page_size = 0; platforms = 1; initializations = 1; directives = 1; reserved2 = 0 })
    (λ k. get_or (platform_b ∷ region_b ∷ context_b ∷ []) k context_b)
