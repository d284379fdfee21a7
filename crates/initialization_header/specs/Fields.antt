-- What the rules ask of an initialization header, in the words of document 01's table.
use Rattle.std.specs.Prelude.{ℕ, ◌+◌, cond}
use Rattle.igvm_defs.specs.Vtls.{vtl_number}
use Rattle.initialization_header.specs.declared.{IgvmInitializationHeader.IgvmInitializationHeader, IgvmInitializationHeader.TheVariants.{GuestPolicy, CcaPolicy, RelocatableRegion, PageTableRelocationRegion}}

-- 0 where a header has no such field
pub record InitializationFields : Type 0 where
  pub kind : ℕ
  pub mask : ℕ
  pub zeroes : ℕ
  pub ones : ℕ
  pub alignment : ℕ
  pub gpa : ℕ
  pub size : ℕ
  pub minimum : ℕ
  pub maximum : ℕ
  pub used : ℕ
  pub flags : ℕ
  pub vp : ℕ
  pub vtl : ℕ

abbrev pub policy_fields : ℕ → ℕ → ℕ → ℕ → InitializationFields
policy_fields kind mask zeroes ones =
    record { kind = kind; mask = mask; zeroes = zeroes; ones = ones; alignment = 0; gpa = 0; size = 0; minimum = 0; maximum = 0; used = 0; flags = 0; vp = 0; vtl = 0 }

-- kind, mask, alignment, gpa, size, minimum, maximum, used, flags, VP, VTL
abbrev pub region_fields : ℕ → ℕ → ℕ → ℕ → ℕ → ℕ → ℕ → ℕ → ℕ → ℕ → ℕ → InitializationFields
region_fields kind mask alignment gpa size minimum maximum used flags vp vtl =
    record { kind = kind; mask = mask; zeroes = 0; ones = 0; alignment = alignment; gpa = gpa; size = size; minimum = minimum; maximum = maximum; used = used; flags = flags; vp = vp; vtl = vtl }

-- the flags of 18 are 1 VTL2, 2 RIP, 4 GDTR
abbrev pub initialization_fields : IgvmInitializationHeader → InitializationFields
initialization_fields (GuestPolicy policy mask) = policy_fields 16 mask 0 0
initialization_fields (CcaPolicy mask zeroes ones) = policy_fields 17 mask zeroes ones
initialization_fields (RelocatableRegion mask alignment gpa size minimum maximum vtl2 rip gdtr vp vtl) =
    region_fields 18 mask alignment gpa size minimum maximum 0 (cond vtl2 1 0 + cond rip 2 0 + cond gdtr 4 0) vp (vtl_number vtl)
initialization_fields (PageTableRelocationRegion mask gpa size used vp vtl) = region_fields 19 mask 0 gpa size 0 0 used 0 vp (vtl_number vtl)

abbrev pub kind_number : IgvmInitializationHeader → ℕ
kind_number h = (initialization_fields h).kind
