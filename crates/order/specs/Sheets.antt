-- The sheets of the examples, made of rows.
use Rattle.std.specs.Prelude.{ℕ, List, [], ◌∷◌, ◌++◌, length, get_or}
use Rattle.rows.specs.Rows.{Rows}
use Rattle.le.specs.Bytes.{le_bytes}
use Rattle.sheet.specs.declared.SheetHead.{SheetHead}
use Rattle.sheet_of.specs.SheetOf.{Row}
use Rattle.sheet_of.specs.Lists.{row_of, lists_sheet}

-- a list of these rows
abbrev pub rows_in : List Row → Rows Row
rows_in rows = record { count = length rows; row = λ i. get_or rows i (row_of 0 []) }

-- revision 2, AArch64, page size 4096, and no rows
abbrev pub aarch64_head : SheetHead
aarch64_head = record { revision = 2; arch = 1; reserved = 0; page_size = 4096; platforms = 0; initializations = 0; directives = 0; reserved2 = 0 }

-- the sheet with this head and these lists
abbrev pub aarch64_sheet : List Row → List Row → List Row → List ℕ
aarch64_sheet platforms initializations directives =
    lists_sheet aarch64_head (record { platforms = rows_in platforms; initializations = rows_in initializations; directives = rows_in directives })

-- ---- rows

-- a platform of this mask and type
abbrev pub platform : ℕ → ℕ → Row
platform mask type = row_of 1 (le_bytes 4 mask ++ 0 ∷ type ∷ le_bytes 2 1 ++ le_bytes 8 0)

-- a CcaPolicy of mask 1 with these two opaque bytes
abbrev pub cca_policy : List ℕ → Row
cca_policy opaque = row_of 17 (le_bytes 4 1 ++ le_bytes 8 0 ++ le_bytes 8 0 ++ opaque)

-- a region of two pages of this mask at this gpa, and of mask 1
abbrev pub masked_region : ℕ → ℕ → Row
masked_region mask gpa = row_of 18 (le_bytes 4 mask ++ le_bytes 8 0x1000 ++ le_bytes 8 gpa ++ le_bytes 8 0x2000 ++ le_bytes 8 0 ++ le_bytes 8 0x200000 ++ 0 ∷ le_bytes 2 0 ++ 0 ∷ [])

abbrev pub region : ℕ → Row
region gpa = masked_region 1 gpa

-- a page table of two pages at this gpa, of mask 1
abbrev pub page_table : ℕ → Row
page_table gpa = row_of 19 (le_bytes 4 1 ++ le_bytes 8 gpa ++ le_bytes 8 0x2000 ++ le_bytes 8 0x1000 ++ le_bytes 2 0 ++ 0 ∷ [])

-- page data of mask 1 at gpa 0
abbrev pub page_data : List ℕ → Row
page_data bytes = row_of 32 (le_bytes 8 0 ++ le_bytes 4 1 ++ le_bytes 4 0 ++ le_bytes 2 0 ++ bytes)

-- parameter area 7 with these initial bytes, and a parameter in it
abbrev pub parameter_area : List ℕ → Row
parameter_area initial = row_of 33 (le_bytes 8 0x1000 ++ le_bytes 4 7 ++ initial)

abbrev pub vp_count : Row
vp_count = row_of 34 (le_bytes 4 7 ++ le_bytes 4 0)

-- an insert of area 7 at gpa 0, of mask 1
abbrev pub parameter_insert : Row
parameter_insert = row_of 50 (le_bytes 8 0 ++ le_bytes 4 1 ++ le_bytes 4 7)

-- a VBS context of mask 1 and VTL 0 with these opaque bytes
abbrev pub aarch64_vbs : List ℕ → Row
aarch64_vbs opaque = row_of 48 (le_bytes 4 1 ++ 0 ∷ opaque)

-- ---- a reordering: the first two rows of each list are exchanged, and page, initial and opaque bytes are changed

unfoldable pub sheet_a : List ℕ
sheet_a =
    aarch64_sheet (platform 1 6 ∷ platform 2 1 ∷ [])
    (region 0x100000 ∷ region 0x102000 ∷ page_table 0x104000 ∷ cca_policy (1 ∷ 2 ∷ []) ∷ [])
    (aarch64_vbs (170 ∷ 187 ∷ []) ∷ parameter_area (1 ∷ 2 ∷ 3 ∷ []) ∷ vp_count ∷ page_data (4 ∷ 5 ∷ []) ∷ [])

unfoldable pub sheet_b : List ℕ
sheet_b =
    aarch64_sheet (platform 2 1 ∷ platform 1 6 ∷ [])
    (region 0x102000 ∷ region 0x100000 ∷ page_table 0x104000 ∷ cca_policy (3 ∷ 4 ∷ []) ∷ [])
    (parameter_area (9 ∷ 8 ∷ 7 ∷ []) ∷ aarch64_vbs (5 ∷ 6 ∷ []) ∷ vp_count ∷ page_data (6 ∷ 7 ∷ []) ∷ [])

-- ---- an accepted sheet, and one that is refused since a row has moved or a byte is left over

-- the area before its parameter, and after it
unfoldable pub area_first : List ℕ
area_first = aarch64_sheet (platform 1 6 ∷ []) [] (parameter_area (1 ∷ 2 ∷ 3 ∷ []) ∷ vp_count ∷ [])

unfoldable pub area_last : List ℕ
area_last = aarch64_sheet (platform 1 6 ∷ []) [] (vp_count ∷ parameter_area (1 ∷ 2 ∷ 3 ∷ []) ∷ [])

-- the area before its insert, and after it
unfoldable pub insert_last : List ℕ
insert_last = aarch64_sheet (platform 1 6 ∷ []) [] (parameter_area (1 ∷ 2 ∷ 3 ∷ []) ∷ parameter_insert ∷ [])

unfoldable pub insert_first : List ℕ
insert_first = aarch64_sheet (platform 1 6 ∷ []) [] (parameter_insert ∷ parameter_area (1 ∷ 2 ∷ 3 ∷ []) ∷ [])

-- the last platform of mask 1 is CCA, and the first is
unfoldable pub cca_last : List ℕ
cca_last = aarch64_sheet (platform 1 1 ∷ platform 1 6 ∷ []) (cca_policy (1 ∷ 2 ∷ []) ∷ []) []

unfoldable pub cca_first : List ℕ
cca_first = aarch64_sheet (platform 1 6 ∷ platform 1 1 ∷ []) (cca_policy (1 ∷ 2 ∷ []) ∷ []) []

-- no byte left over, and one
unfoldable pub plain : List ℕ
plain = aarch64_sheet (platform 1 6 ∷ []) [] []

unfoldable pub longer : List ℕ
unfolding plain
longer = plain ++ 0 ∷ []

-- ---- a reordering of sheets that are strictly refused: a region with a bit without a context stands first, and last

unfoldable pub lacking_first : List ℕ
lacking_first = aarch64_sheet (platform 1 6 ∷ []) (masked_region 3 0x100000 ∷ region 0x102000 ∷ []) (aarch64_vbs (1 ∷ 2 ∷ []) ∷ [])

unfoldable pub lacking_last : List ℕ
lacking_last = aarch64_sheet (platform 1 6 ∷ []) (region 0x102000 ∷ masked_region 3 0x100000 ∷ []) (aarch64_vbs (1 ∷ 2 ∷ []) ∷ [])
