-- What is answered of a region by its eight words alone, as the region list puts them, without the sheet.
use Rattle.std.specs.Prelude.{ℕ, Bool, cond, List, leb, length}
use Rattle.std.proofs.Math.Option.{Option, none, some}
use Rattle.le.specs.Le.{le_at}
use Rattle.rules.specs.declared.IgvmRelocatableRegion.{IgvmRelocatableRegion}
use Rattle.rules.specs.Relocations.{region_contains}
use Rattle.answers.specs.Relocations.{test_region, answer_for, base_number}

-- the region that the first eight words say; none in fewer than 64 bytes
unfoldable pub region_of : List ℕ → Option IgvmRelocatableRegion
region_of b =
    cond (leb 64 (length b))
    (some (record {
      base_gpa = le_at 8 b 0;
      size = le_at 8 b 8;
      relocation_alignment = le_at 8 b 16;
      minimum_relocation_gpa = le_at 8 b 24;
      maximum_relocation_gpa = le_at 8 b 32;
      flags = le_at 8 b 40;
      vp_index = le_at 8 b 48;
      vtl = le_at 8 b 56;
    }))
    none

-- 1 where the test holds of the region, 0 where it does not or there is no region
unfoldable pub region_check_of : (IgvmRelocatableRegion → Bool) → List ℕ → ℕ
region_check_of p b = cond (test_region p (region_of b)) 1 0

-- the number of what is said of moving the region to a base; 0 where there is no region
abbrev pub region_base_check_of : List ℕ → ℕ → ℕ
region_base_check_of b base = answer_for (base_number base) (region_of b)

-- whether an address lies in the region
abbrev pub region_contains_of : List ℕ → ℕ → ℕ
region_contains_of b gpa = region_check_of (λ r. region_contains r gpa) b
