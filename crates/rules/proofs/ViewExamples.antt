-- The rules over the view of a directive header, spelled out for the kinds that have a fault of their own.
use Rattle.rows.proofs.Kit.{◌≡◌, refl, Bool, not, ℕ, ltb}
use Rattle.igvm_defs.specs.Refusals.{fault, no_fault, refuse}
use Rattle.addresses.specs.Addresses.{on_page}
use Rattle.directive_header.specs.declared.IgvmDirectiveHeader.TheVariants.{PageData, ParameterArea, RequiredMemory, SnpVpContext}
use Rattle.rules.specs.Directives.{validate_directive}

pub page_data_lem : (gpa mask flags type tail : ℕ) → validate_directive (PageData gpa mask flags type tail)
    ≡ refuse (not (on_page gpa)) (fault 21 gpa) (refuse (ltb 3 type) (fault 30 0) (refuse (ltb 4096 tail) (fault 31 0) no_fault))
page_data_lem gpa mask flags type tail = refl

pub parameter_area_lem : (bytes area tail : ℕ) → validate_directive (ParameterArea bytes area tail)
    ≡ refuse (not (on_page bytes)) (fault 22 bytes) (refuse (ltb bytes tail) (fault 31 0) no_fault)
parameter_area_lem bytes area tail = refl

pub required_memory : (gpa mask bytes : ℕ) (protectable : Bool) → validate_directive (RequiredMemory gpa mask bytes protectable)
    ≡ refuse (not (on_page gpa)) (fault 21 gpa) (refuse (not (on_page bytes)) (fault 22 bytes) no_fault)
required_memory gpa mask bytes protectable = refl

pub snp_vp_context : (gpa mask vp vmsa : ℕ) → validate_directive (SnpVpContext gpa mask vp vmsa) ≡ refuse (not (on_page gpa)) (fault 21 gpa) no_fault
snp_vp_context gpa mask vp vmsa = refl
