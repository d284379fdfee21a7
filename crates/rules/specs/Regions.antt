-- Regions of either kind (18, 19): what they cover, and for whom.
use Rattle.std.specs.Prelude.{ℕ}
use mathlib.Core.{Bool.{Bool, cond, ◌&&◌, ◌||◌}, Option.{Option, none, some}}
use Rattle.std.specs.Prelude.{eqb}
use Rattle.initialization_header.specs.{declared.IgvmInitializationHeader.IgvmInitializationHeader, Fields.initialization_fields}
use Rattle.masks.specs.Masks.{shares}
use Rattle.addresses.specs.Addresses.{contains, meets}
use Rattle.rules.specs.{declared.Region.Region, Options.passes}

-- the region of a header, where it has one
abbrev pub region_of : IgvmInitializationHeader → Option Region
region_of h =
    let d = initialization_fields h in
    let region : Region = record { mask = d.mask; gpa = d.gpa; size = d.size; vp_index = d.vp; vtl = d.vtl; page_table = eqb d.kind 19 } in
    cond (eqb d.kind 18 || eqb d.kind 19) (some region) none

-- the header has a region, and the region passes
unfoldable pub region_passes : (Region → Bool) → IgvmInitializationHeader → Bool
region_passes p h = passes p (region_of h)

-- both headers have a region, and the two regions clash
unfoldable pub regions_clash : (Region → Region → Bool) → IgvmInitializationHeader → IgvmInitializationHeader → Bool
regions_clash clash h g = region_passes (λ r. region_passes (clash r) g) h

-- two page tables whose masks share a bit
unfoldable pub tables_share : Region → Region → Bool
tables_share r q = r.page_table && q.page_table && shares r.mask q.mask

-- two regions whose masks share a bit and which have an address in common
unfoldable pub overlap : Region → Region → Bool
overlap r q = shares r.mask q.mask && meets r.gpa r.size q.gpa q.size

-- a page table that shares a bit with the mask and contains the address
unfoldable pub table_holds : ℕ → ℕ → Region → Bool
table_holds mask gpa r = r.page_table && shares r.mask mask && contains r.gpa r.size gpa
