-- What the rules ask of a directive header, in the words of document 01's table, and the parameter area that a row names.
use Rattle.std.specs.Prelude.{ℕ}
use mathlib.Core.{Bool.{Bool, cond, ◌&&◌}, List.List, Option.{Option, none, some}}
use Rattle.std.specs.Prelude.{eqb, leb}
use Rattle.le.specs.Le.{le_at}
use Rattle.igvm_defs.specs.Vtls.{vtl_number}
use Rattle.directive_header.specs.declared.{IGVM_VHS_PARAMETER.IGVM_VHS_PARAMETER, IgvmDirectiveHeader.IgvmDirectiveHeader, IgvmDirectiveHeader.TheVariants.{PageData, ParameterArea, VpCount, EnvironmentInfo, Srat, Madt, Slit, Pptt, MmioRanges, MemoryMap, CommandLine, DeviceTree, RequiredMemory, SnpVpContext, X64NativeVpContext, X64VbsVpContext, AArch64VbsVpContext, AArch64CcaVpContext, ParameterInsert, ErrorRange, SnpIdBlock, VbsMeasurement}}

-- 0 or none where a header has no such field
pub record DirectiveFields : Type 0 where
  pub kind : ℕ
  pub gpa : ℕ
  pub mask : ℕ
  pub bytes : ℕ
  pub area : Option ℕ
  pub type : ℕ
  pub vtl : ℕ
  -- how many bytes follow the fields
  pub tail : ℕ

-- kind, gpa, mask, bytes, area, type, VTL, tail
abbrev pub fields_from : ℕ → ℕ → ℕ → ℕ → Option ℕ → ℕ → ℕ → ℕ → DirectiveFields
fields_from kind gpa mask bytes area type vtl tail =
    record { kind = kind; gpa = gpa; mask = mask; bytes = bytes; area = area; type = type; vtl = vtl; tail = tail }

abbrev pub parameter_fields : ℕ → IGVM_VHS_PARAMETER → DirectiveFields
parameter_fields kind p = fields_from kind 0 0 0 (some p.parameter_area_index) 0 0 0

abbrev pub directive_fields : IgvmDirectiveHeader → DirectiveFields
directive_fields (PageData gpa mask flags type tail) = fields_from 32 gpa mask 0 none type 0 tail
directive_fields (ParameterArea bytes area tail) = fields_from 33 0 0 bytes (some area) 0 0 tail
directive_fields (VpCount p) = parameter_fields 34 p
directive_fields (EnvironmentInfo p) = parameter_fields 35 p
directive_fields (Srat p) = parameter_fields 36 p
directive_fields (Madt p) = parameter_fields 37 p
directive_fields (Slit p) = parameter_fields 38 p
directive_fields (Pptt p) = parameter_fields 39 p
directive_fields (MmioRanges p) = parameter_fields 40 p
directive_fields (MemoryMap p) = parameter_fields 41 p
directive_fields (CommandLine p) = parameter_fields 42 p
directive_fields (DeviceTree p) = parameter_fields 43 p
directive_fields (RequiredMemory gpa mask bytes protectable) = fields_from 44 gpa mask bytes none 0 0 0
directive_fields (SnpVpContext gpa mask vp tail) = fields_from 45 gpa mask 0 none 0 0 tail
directive_fields (X64NativeVpContext mask vp tail) = fields_from 46 0 mask 0 none 0 0 tail
directive_fields (X64VbsVpContext vtl tail mask) = fields_from 47 0 mask 0 none 0 (vtl_number vtl) tail
directive_fields (AArch64VbsVpContext vtl tail mask) = fields_from 48 0 mask 0 none 0 (vtl_number vtl) tail
directive_fields (AArch64CcaVpContext mask vp tail) = fields_from 49 0 mask 0 none 0 0 tail
directive_fields (ParameterInsert p) = fields_from 50 p.gpa p.compatibility_mask 0 (some p.parameter_area_index) 0 0 0
directive_fields (ErrorRange gpa mask bytes) = fields_from 51 gpa mask bytes none 0 0 0
directive_fields (SnpIdBlock mask tail) = fields_from 52 0 mask 0 none 0 0 tail
directive_fields (VbsMeasurement mask tail) = fields_from 53 0 mask 0 none 0 0 tail

abbrev pub kind_number : IgvmDirectiveHeader → ℕ
kind_number h = (directive_fields h).kind

-- 33, 34 to 43 and 50
abbrev pub area_of : IgvmDirectiveHeader → Option ℕ
area_of h = (directive_fields h).area

-- 34 to 43: a parameter
abbrev pub is_parameter : ℕ → Bool
is_parameter kind = leb 34 kind && leb kind 43

-- the area that a row names, from its kind and body
unfoldable pub area_named : ℕ → List ℕ → Option ℕ
area_named kind b =
    cond (eqb kind 33) (some (le_at 4 b 8))
    (cond (is_parameter kind) (some (le_at 4 b 0))
    (cond (eqb kind 50) (some (le_at 4 b 12))
    none))
