-- What is answered of a region, by its number, whose base is known only as a range: the verdict's refusal, 35, 36, then 50.
use Rattle.std.specs.Prelude.{ℕ, cond, List, ltb}
use Rattle.igvm_defs.specs.declared.Fault.{Fault}
use Rattle.igvm_defs.specs.declared.Refusal.{Refusal}
use Rattle.igvm_defs.specs.Refusals.{fault, no_fault, refuse, is_refusal, in_row, or_else}
use Rattle.sheet.specs.Head.{Limits}
use Rattle.base_ranges.specs.declared.BaseRange.{BaseRange}
use Rattle.base_ranges.specs.BaseRanges.{base_range, range_number}
use Rattle.rules.specs.declared.IgvmRelocatableRegion.{IgvmRelocatableRegion}
use Rattle.rules.specs.Relocations.{region_at}
use Rattle.answers.specs.declared.Answered.{Answered}
use Rattle.answers.specs.Relocations.{sheet_initializations, check_refusal, answer_for}

-- 50: lowest base above the highest
unfoldable pub range_fault : ℕ → ℕ → Fault
range_fault lowest highest = refuse (ltb highest lowest) (fault 50 0) no_fault

unfoldable pub range_refusal : Limits → List ℕ → ℕ → ℕ → ℕ → ℕ → Refusal
range_refusal l s given region lowest highest = or_else (check_refusal l s given region) (in_row 0 (range_fault lowest highest))

-- what is said of moving the region to a base of the range
abbrev pub relocation_base_range : IgvmRelocatableRegion → ℕ → ℕ → BaseRange
relocation_base_range r lowest highest =
    base_range r.relocation_alignment r.size r.minimum_relocation_gpa r.maximum_relocation_gpa lowest highest

-- the number of it
abbrev pub base_range_number : ℕ → ℕ → IgvmRelocatableRegion → ℕ
base_range_number lowest highest r = range_number (relocation_base_range r lowest highest)

-- whether a region may be moved to every base of the range, to none, or to some
unfoldable pub base_range_of : Limits → List ℕ → ℕ → ℕ → ℕ → ℕ → Answered
base_range_of l s given region lowest highest =
    record {
      refusal = range_refusal l s given region lowest highest;
      answer =
          cond (is_refusal (range_refusal l s given region lowest highest)) 0
          (answer_for (base_range_number lowest highest) (region_at (sheet_initializations s) given region));
    }
