-- The header that an initialization row's kind and body say.
use Rattle.std.specs.Prelude.{ℕ, ◌/◌, ◌%◌, cond, List, eqb}
use Rattle.le.specs.Le.{byte_at, le_at}
use Rattle.igvm_defs.specs.Vtls.{vtl_of}
use Rattle.initialization_header.specs.declared.IgvmInitializationHeader.{IgvmInitializationHeader}
use Rattle.initialization_header.specs.declared.IgvmInitializationHeader.TheVariants.{GuestPolicy, CcaPolicy, RelocatableRegion, PageTableRelocationRegion}

-- 16: policy u64, mask u32
abbrev pub guest_policy_of : List ℕ → IgvmInitializationHeader
guest_policy_of b = GuestPolicy (le_at 8 b 0) (le_at 4 b 8)

-- 17: mask u32, zeroes u64, ones u64, two opaque bytes
abbrev pub cca_policy_of : List ℕ → IgvmInitializationHeader
cca_policy_of b = CcaPolicy (le_at 4 b 0) (le_at 8 b 4) (le_at 8 b 12)

-- 18: mask u32; alignment, gpa, size, minimum, maximum u64; flags u8 (1 VTL2, 2 RIP, 4 GDTR); VP u16; VTL u8
abbrev pub relocatable_region_of : List ℕ → IgvmInitializationHeader
relocatable_region_of b =
    RelocatableRegion (le_at 4 b 0) (le_at 8 b 4) (le_at 8 b 12) (le_at 8 b 20) (le_at 8 b 28) (le_at 8 b 36)
    (eqb (byte_at b 44 % 2) 1) (eqb (byte_at b 44 / 2 % 2) 1) (eqb (byte_at b 44 / 4 % 2) 1) (le_at 2 b 45) (vtl_of (byte_at b 47))

-- 19: mask u32; gpa, size, used u64; VP u16; VTL u8
abbrev pub page_table_relocation_region_of : List ℕ → IgvmInitializationHeader
page_table_relocation_region_of b =
    PageTableRelocationRegion (le_at 4 b 0) (le_at 8 b 4) (le_at 8 b 12) (le_at 8 b 20) (le_at 2 b 28) (vtl_of (byte_at b 30))

-- kinds 16 to 19
unfoldable pub initialization_of : ℕ → List ℕ → IgvmInitializationHeader
initialization_of kind b =
    cond (eqb kind 16) (guest_policy_of b)
    (cond (eqb kind 17) (cca_policy_of b)
    (cond (eqb kind 18) (relocatable_region_of b)
    (page_table_relocation_region_of b)))
