-- The relocation query of an accepted file: a mask's regions in header order, its page-table region, and checks on one region.
use Rattle.std.specs.Prelude.{ℕ}
use mathlib.Core.{Bool.{Bool, cond, ◌&&◌}, List.{List, [], ◌∷◌}, Option.{Option, none, some}}
use Rattle.std.specs.Prelude.{eqb}
use Rattle.rows.specs.Rows.{Rows, count_of, nth}
use Rattle.initialization_header.specs.{declared.IgvmInitializationHeader.IgvmInitializationHeader, Fields.{initialization_fields, kind_number}}
use Rattle.masks.specs.Masks.{matches}
use Rattle.addresses.specs.{Addresses.{contains, base_valid}, BaseChecks.base_check, declared.BaseCheck.BaseCheck}
use Rattle.rules.specs.{declared.IgvmRelocatableRegion.IgvmRelocatableRegion, declared.PageTableRegion.PageTableRegion, Options.then}

-- the relocatable region of a header, where it is of kind 18
abbrev pub relocatable_of : IgvmInitializationHeader → Option IgvmRelocatableRegion
relocatable_of h =
    let d = initialization_fields h in
    cond (eqb d.kind 18)
    (some (record {
      base_gpa = d.gpa;
      size = d.size;
      relocation_alignment = d.alignment;
      minimum_relocation_gpa = d.minimum;
      maximum_relocation_gpa = d.maximum;
      flags = d.flags;
      vp_index = d.vp;
      vtl = d.vtl;
    }))
    none

-- the page-table region of a header, where it is of kind 19
abbrev pub page_table_of : IgvmInitializationHeader → Option PageTableRegion
page_table_of h =
    let d = initialization_fields h in
    cond (eqb d.kind 19) (some (record { gpa = d.gpa; size = d.size; used_size = d.used; vp_index = d.vp; vtl = d.vtl })) none

-- the header is of kind 18, and its mask holds every bit of the mask given
abbrev pub is_relocatable : ℕ → IgvmInitializationHeader → Bool
is_relocatable given h = eqb (kind_number h) 18 && matches given (initialization_fields h).mask

-- the same of kind 19
abbrev pub is_page_table : ℕ → IgvmInitializationHeader → Bool
is_page_table given h = eqb (kind_number h) 19 && matches given (initialization_fields h).mask

-- how many regions a mask has
unfoldable pub region_count : Rows IgvmInitializationHeader → ℕ → ℕ
region_count initializations given = count_of (is_relocatable given) initializations

-- region k of a mask, from 0, in header order
unfoldable pub region_at : Rows IgvmInitializationHeader → ℕ → ℕ → Option IgvmRelocatableRegion
region_at initializations given k = then (nth (is_relocatable given) initializations k) relocatable_of

-- the page-table region of a mask; 26 leaves at most one
unfoldable pub page_table_at : Rows IgvmInitializationHeader → ℕ → Option PageTableRegion
page_table_at initializations given = then (nth (is_page_table given) initializations 0) page_table_of

-- a region in eight words
abbrev pub words_of : IgvmRelocatableRegion → List ℕ
words_of r =
    r.base_gpa ∷ r.size ∷ r.relocation_alignment ∷ r.minimum_relocation_gpa ∷ r.maximum_relocation_gpa ∷ r.flags ∷ r.vp_index ∷ r.vtl ∷ []

-- the address lies in the region
abbrev pub region_contains : IgvmRelocatableRegion → ℕ → Bool
region_contains r gpa = contains r.base_gpa r.size gpa

-- the region may be moved to the base
abbrev pub relocation_base_valid : IgvmRelocatableRegion → ℕ → Bool
relocation_base_valid r base =
    base_valid r.relocation_alignment r.size r.minimum_relocation_gpa r.maximum_relocation_gpa base

-- what is said of moving the region to the base
abbrev pub relocation_base_check : IgvmRelocatableRegion → ℕ → BaseCheck
relocation_base_check r base =
    base_check r.relocation_alignment r.size r.minimum_relocation_gpa r.maximum_relocation_gpa base
