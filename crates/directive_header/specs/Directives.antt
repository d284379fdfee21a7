-- The header that a directive row's kind and body say.
use Rattle.std.specs.Prelude.{ℕ, ◌-◌, cond, List, eqb, length}
use Rattle.le.specs.Le.{byte_at, le_at}
use Rattle.igvm_defs.specs.Vtls.{vtl_of}
use Rattle.directive_header.specs.declared.IGVM_VHS_PARAMETER.{IGVM_VHS_PARAMETER}
use Rattle.directive_header.specs.declared.IgvmDirectiveHeader.{IgvmDirectiveHeader}
use Rattle.directive_header.specs.declared.IgvmDirectiveHeader.TheVariants.{PageData, ParameterArea, VpCount, EnvironmentInfo, Srat, Madt, Slit, Pptt, MmioRanges, MemoryMap, CommandLine, DeviceTree, RequiredMemory, SnpVpContext, X64NativeVpContext, X64VbsVpContext, AArch64VbsVpContext, AArch64CcaVpContext, ParameterInsert, ErrorRange, SnpIdBlock, VbsMeasurement}

-- 32: gpa u64, mask u32, flags u32, type u16, data +
abbrev pub page_data_of : List ℕ → IgvmDirectiveHeader
page_data_of b = PageData (le_at 8 b 0) (le_at 4 b 8) (le_at 4 b 12) (le_at 2 b 16) (length b - 18)

-- 33: bytes u64, area u32, initial data +
abbrev pub parameter_area_of : List ℕ → IgvmDirectiveHeader
parameter_area_of b = ParameterArea (le_at 8 b 0) (le_at 4 b 8) (length b - 12)

-- 34 to 43: area u32, offset u32
abbrev pub parameter_of : List ℕ → IGVM_VHS_PARAMETER
parameter_of b = record { parameter_area_index = le_at 4 b 0; byte_offset = le_at 4 b 4 }

-- 44: gpa u64, mask u32, bytes u32, protectable u8 (0, 1)
abbrev pub required_memory_of : List ℕ → IgvmDirectiveHeader
required_memory_of b = RequiredMemory (le_at 8 b 0) (le_at 4 b 8) (le_at 4 b 12) (eqb (byte_at b 16) 1)

-- 45: gpa u64, mask u32, VP u16 +
abbrev pub snp_vp_context_of : List ℕ → IgvmDirectiveHeader
snp_vp_context_of b = SnpVpContext (le_at 8 b 0) (le_at 4 b 8) (le_at 2 b 12) (length b - 14)

-- 46: mask u32, VP u16 +
abbrev pub x64_native_vp_context_of : List ℕ → IgvmDirectiveHeader
x64_native_vp_context_of b = X64NativeVpContext (le_at 4 b 0) (le_at 2 b 4) (length b - 6)

-- 47: mask u32, VTL u8 +
abbrev pub x64_vbs_vp_context_of : List ℕ → IgvmDirectiveHeader
x64_vbs_vp_context_of b = X64VbsVpContext (vtl_of (byte_at b 4)) (length b - 5) (le_at 4 b 0)

-- 48: mask u32, VTL u8 +
abbrev pub aarch64_vbs_vp_context_of : List ℕ → IgvmDirectiveHeader
aarch64_vbs_vp_context_of b = AArch64VbsVpContext (vtl_of (byte_at b 4)) (length b - 5) (le_at 4 b 0)

-- 49: mask u32, VP u16 +
abbrev pub aarch64_cca_vp_context_of : List ℕ → IgvmDirectiveHeader
aarch64_cca_vp_context_of b = AArch64CcaVpContext (le_at 4 b 0) (le_at 2 b 4) (length b - 6)

-- 50: gpa u64, mask u32, area u32
abbrev pub parameter_insert_of : List ℕ → IgvmDirectiveHeader
parameter_insert_of b = ParameterInsert (record { gpa = le_at 8 b 0; compatibility_mask = le_at 4 b 8; parameter_area_index = le_at 4 b 12 })

-- 51: gpa u64, mask u32, bytes u32
abbrev pub error_range_of : List ℕ → IgvmDirectiveHeader
error_range_of b = ErrorRange (le_at 8 b 0) (le_at 4 b 8) (le_at 4 b 12)

-- 52: mask u32 +
abbrev pub snp_id_block_of : List ℕ → IgvmDirectiveHeader
snp_id_block_of b = SnpIdBlock (le_at 4 b 0) (length b - 4)

-- 53: mask u32 +
abbrev pub vbs_measurement_of : List ℕ → IgvmDirectiveHeader
vbs_measurement_of b = VbsMeasurement (le_at 4 b 0) (length b - 4)

-- kinds 32 to 53; 34 to 43 follow the enum's order
unfoldable pub directive_of : ℕ → List ℕ → IgvmDirectiveHeader
directive_of kind b =
    cond (eqb kind 32) (page_data_of b)
    (cond (eqb kind 33) (parameter_area_of b)
    (cond (eqb kind 34) (VpCount (parameter_of b))
    (cond (eqb kind 35) (EnvironmentInfo (parameter_of b))
    (cond (eqb kind 36) (Srat (parameter_of b))
    (cond (eqb kind 37) (Madt (parameter_of b))
    (cond (eqb kind 38) (Slit (parameter_of b))
    (cond (eqb kind 39) (Pptt (parameter_of b))
    (cond (eqb kind 40) (MmioRanges (parameter_of b))
    (cond (eqb kind 41) (MemoryMap (parameter_of b))
    (cond (eqb kind 42) (CommandLine (parameter_of b))
    (cond (eqb kind 43) (DeviceTree (parameter_of b))
    (cond (eqb kind 44) (required_memory_of b)
    (cond (eqb kind 45) (snp_vp_context_of b)
    (cond (eqb kind 46) (x64_native_vp_context_of b)
    (cond (eqb kind 47) (x64_vbs_vp_context_of b)
    (cond (eqb kind 48) (aarch64_vbs_vp_context_of b)
    (cond (eqb kind 49) (aarch64_cca_vp_context_of b)
    (cond (eqb kind 50) (parameter_insert_of b)
    (cond (eqb kind 51) (error_range_of b)
    (cond (eqb kind 52) (snp_id_block_of b)
    (vbs_measurement_of b)))))))))))))))))))))
