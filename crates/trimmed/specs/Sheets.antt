-- The examples: rows dropped from a sheet, and the sheets that are left.
use Rattle.std.specs.Prelude.{ℕ, Bool, true, not, ◌&&◌, List, [], ◌∷◌, eqb}
use Rattle.order.specs.Sheets.{aarch64_sheet, platform, cca_policy, region, page_table, page_data, parameter_area, vp_count, parameter_insert, aarch64_vbs}
use Rattle.trimmed.specs.Trimmed.{Remain}

-- every index but these
unfoldable pub all_but : List ℕ → ℕ → Bool
all_but [] i = true
all_but (k ∷ ks) i = not (eqb i k) && all_but ks i

-- these initialization rows and these directive rows are dropped
abbrev pub dropping : List ℕ → List ℕ → Remain
dropping initializations directives = record { initializations = all_but initializations; directives = all_but directives }

-- ---- of `sheet_a`, which has two regions, a page table and a policy, and a context, an area, a parameter in it and page data

-- the first region, the page table and the page data
abbrev pub some_dropped : Remain
some_dropped = dropping (0 ∷ 2 ∷ []) (3 ∷ [])

unfoldable pub some_left : List ℕ
some_left =
    aarch64_sheet (platform 1 6 ∷ platform 2 1 ∷ []) (region 0x102000 ∷ cca_policy (1 ∷ 2 ∷ []) ∷ [])
    (aarch64_vbs (170 ∷ 187 ∷ []) ∷ parameter_area (1 ∷ 2 ∷ 3 ∷ []) ∷ vp_count ∷ [])

-- the context
abbrev pub context_dropped : Remain
context_dropped = dropping [] (0 ∷ [])

unfoldable pub context_less : List ℕ
context_less =
    aarch64_sheet (platform 1 6 ∷ platform 2 1 ∷ []) (region 0x100000 ∷ region 0x102000 ∷ page_table 0x104000 ∷ cca_policy (1 ∷ 2 ∷ []) ∷ [])
    (parameter_area (1 ∷ 2 ∷ 3 ∷ []) ∷ vp_count ∷ page_data (4 ∷ 5 ∷ []) ∷ [])

-- the area, but not the parameter in it
abbrev pub area_dropped : Remain
area_dropped = dropping [] (1 ∷ [])

unfoldable pub area_less : List ℕ
area_less =
    aarch64_sheet (platform 1 6 ∷ platform 2 1 ∷ []) (region 0x100000 ∷ region 0x102000 ∷ page_table 0x104000 ∷ cca_policy (1 ∷ 2 ∷ []) ∷ [])
    (aarch64_vbs (170 ∷ 187 ∷ []) ∷ vp_count ∷ page_data (4 ∷ 5 ∷ []) ∷ [])

-- ---- of `insert_last`, which has an area and its insert: the area

abbrev pub inserted_dropped : Remain
inserted_dropped = dropping [] (0 ∷ [])

unfoldable pub insert_left : List ℕ
insert_left = aarch64_sheet (platform 1 6 ∷ []) [] (parameter_insert ∷ [])
