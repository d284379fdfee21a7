-- What is wrong with an initialization header, given the platform headers and the initialization headers before it: refusals 16 to 29.
use Rattle.std.specs.Prelude.{ℕ}
use mathlib.Core.{Bool.{Bool, cond, not, ◌&&◌}, Option.{Option, none, some}}
use Rattle.std.specs.Prelude.{eqb, ltb}
use Rattle.rows.specs.Rows.{Rows, any}
use Rattle.igvm_defs.specs.{declared.Arch.Arch, declared.Fault.Fault, Refusals.{fault, no_fault, refuse, or_fault}, Revision.is_aarch64}
use Rattle.platform_header.specs.declared.IgvmPlatformHeader.{IgvmPlatformHeader}
use Rattle.initialization_header.specs.{declared.IgvmInitializationHeader.IgvmInitializationHeader, Fields.{initialization_fields, kind_number}}
use Rattle.masks.specs.Masks.{shares, individual_masks, first_mask}
use Rattle.addresses.specs.Addresses.{is_multiple, on_page, ends_beyond}
use Rattle.rules.specs.{Platforms.last_is_cca, Regions.{region_passes, tables_share, overlap}}

-- kind 18 alone; 20 with the first of gpa, minimum and maximum that is not a multiple of the alignment
unfoldable pub validate_region : ℕ → ℕ → ℕ → ℕ → ℕ → Fault
validate_region alignment gpa size minimum maximum =
    refuse (not (on_page size)) (fault 17 0)
    (refuse (not (on_page alignment)) (fault 18 0)
    (refuse (eqb alignment 0) (fault 19 0)
    (refuse (not (is_multiple gpa alignment)) (fault 20 gpa)
    (refuse (not (is_multiple minimum alignment)) (fault 20 minimum)
    (refuse (not (is_multiple maximum alignment)) (fault 20 maximum)
    no_fault)))))

-- kind 19 alone
unfoldable pub validate_table : ℕ → ℕ → ℕ → Fault
validate_table gpa size used =
    refuse (not (on_page gpa)) (fault 21 gpa)
    (refuse (not (on_page size)) (fault 22 size)
    (refuse (not (on_page used)) (fault 22 used)
    (refuse (ltb size used) (fault 23 0)
    no_fault)))

-- the header alone
abbrev pub validate_initialization : IgvmInitializationHeader → Fault
validate_initialization h =
    let d = initialization_fields h in
    refuse (eqb d.kind 17 && shares d.zeroes d.ones) (fault 16 0)
    (cond (eqb d.kind 18) (validate_region d.alignment d.gpa d.size d.minimum d.maximum)
    (cond (eqb d.kind 19) (validate_table d.gpa d.size d.used)
    no_fault))

-- a CcaPolicy stands with AArch64 alone
abbrev pub wrong_policy_arch : Arch → IgvmInitializationHeader → Bool
wrong_policy_arch arch h = eqb (kind_number h) 17 && not (is_aarch64 arch)

-- the lowest bit of the mask without CCA, as a mask
unfoldable pub bit_without_cca : Rows IgvmPlatformHeader → ℕ → Option ℕ
bit_without_cca platforms mask = first_mask (λ bit. not (last_is_cca platforms bit)) (individual_masks mask)

abbrev pub without_cca : Rows IgvmPlatformHeader → IgvmInitializationHeader → Option ℕ
without_cca platforms h = cond (eqb (kind_number h) 17) (bit_without_cca platforms (initialization_fields h).mask) none

-- 25, with the bit
abbrev pub refuse_bit : Option ℕ → Fault → Fault
refuse_bit none later = later
refuse_bit (some bit) later = fault 25 bit

unfoldable pub initialization_fault : Arch → Rows IgvmPlatformHeader → Rows IgvmInitializationHeader → IgvmInitializationHeader → Fault
initialization_fault arch platforms earlier h =
    or_fault (validate_initialization h)
    (refuse (wrong_policy_arch arch h) (fault 24 17)
    (refuse_bit (without_cca platforms h)
    (refuse (region_passes (λ r. any (region_passes (tables_share r)) earlier) h) (fault 26 0)
    (refuse (region_passes (λ r. eqb r.size 0) h) (fault 27 0)
    (refuse (region_passes (λ r. ends_beyond r.gpa r.size) h) (fault 28 0)
    (refuse (region_passes (λ r. any (region_passes (overlap r)) earlier) h) (fault 29 0)
    no_fault))))))

-- what is wrong with it whatever the other rows are: 16 to 24, 27, 28
unfoldable pub own_initialization_fault : Arch → IgvmInitializationHeader → Fault
own_initialization_fault arch h =
    or_fault (validate_initialization h)
    (refuse (wrong_policy_arch arch h) (fault 24 17)
    (refuse (region_passes (λ r. eqb r.size 0) h) (fault 27 0)
    (refuse (region_passes (λ r. ends_beyond r.gpa r.size) h) (fault 28 0)
    no_fault)))
