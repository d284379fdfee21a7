-- The record of the regions read so far.
use Rattle.std.specs.Prelude.{ℕ, ◌+◌, ◌≡◌, Bool, false, List, length, get_or, set}
use Rattle.rules.specs.declared.Region.{Region}
use Rattle.reloc_regions.specs.declared.RelocRegions.{RelocRegions}

-- region i of the record
abbrev pub entry : {N : ℕ} → RelocRegions N → ℕ → Region
entry r i =
    record {
      mask = get_or r.mask i 0;
      gpa = get_or r.gpa i 0;
      size = get_or r.size i 0;
      vp_index = get_or r.vp_index i 0;
      vtl = get_or r.vtl i 0;
      page_table = get_or r.page_table i false;
    }

-- the record with a region more behind its own
abbrev pub pushed : {N : ℕ} → RelocRegions N → Region → RelocRegions N
pushed r new =
    record {
      mask = set r.mask r.count new.mask;
      gpa = set r.gpa r.count new.gpa;
      size = set r.size r.count new.size;
      vp_index = set r.vp_index r.count new.vp_index;
      vtl = set r.vtl r.count new.vtl;
      page_table = set r.page_table r.count new.page_table;
      count = r.count + 1;
    }

-- each array has N entries
pub record Lengths {N : ℕ} (r : RelocRegions N) : Type 0 where
  pub mask : length r.mask ≡ N
  pub gpa : length r.gpa ≡ N
  pub size : length r.size ≡ N
  pub vp_index : length r.vp_index ≡ N
  pub vtl : length r.vtl ≡ N
  pub page_table : length r.page_table ≡ N
