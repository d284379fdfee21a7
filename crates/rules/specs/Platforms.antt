-- What is wrong with a platform header, given the platform headers before it: refusals 8 to 14.
use Rattle.std.specs.Prelude.{ℕ, Bool, not, ◌&&◌, ◌||◌, eqb}
use Rattle.rows.specs.Rows.{Rows, any, last}
use Rattle.igvm_defs.specs.{declared.Arch.Arch, declared.Arch.TheVariants.{X64, AArch64}, declared.Fault.Fault, declared.PlatformType.PlatformType, Refusals.{fault, no_fault, refuse, or_fault}, Platforms.{is_platform_type, platform_type_of}}
use Rattle.platform_header.specs.declared.IgvmPlatformHeader.{IgvmPlatformHeader}
use Rattle.masks.specs.Masks.{is_one_bit}
use Rattle.rules.specs.Options.{passes}

-- the header alone
unfoldable pub validate_platform : IgvmPlatformHeader → Fault
validate_platform h =
    let type = platform_type_of h.platform_type in
    refuse (not (is_one_bit h.compatibility_mask)) (fault 8 0)
    (refuse (not (eqb h.highest_vtl 0 || eqb h.highest_vtl 2)) (fault 9 0)
    (refuse (not (is_platform_type h.platform_type)) (fault 12 0)
    (refuse (not (eqb h.platform_version type.version)) (fault 10 0)
    (refuse (type.unshared && not (eqb h.shared_gpa_boundary 0)) (fault 11 0)
    no_fault))))

-- a type stands with an architecture
abbrev pub stands_with : Arch → PlatformType → Bool
stands_with X64 t = t.x64
stands_with AArch64 t = t.aarch64

-- and by the architecture
unfoldable pub own_platform_fault : Arch → IgvmPlatformHeader → Fault
own_platform_fault arch h =
    or_fault (validate_platform h)
    (refuse (not (stands_with arch (platform_type_of h.platform_type))) (fault 13 h.platform_type) no_fault)

-- two headers of one type
unfoldable pub same_type : IgvmPlatformHeader → IgvmPlatformHeader → Bool
same_type h g = eqb h.platform_type g.platform_type

unfoldable pub platform_fault : Arch → Rows IgvmPlatformHeader → IgvmPlatformHeader → Fault
platform_fault arch earlier h = or_fault (own_platform_fault arch h) (refuse (any (same_type h) earlier) (fault 14 0) no_fault)

-- ---- for 25

abbrev pub is_cca : IgvmPlatformHeader → Bool
is_cca h = eqb h.platform_type 6

-- the LAST platform whose mask is this one is CCA
unfoldable pub last_is_cca : Rows IgvmPlatformHeader → ℕ → Bool
last_is_cca platforms mask = passes is_cca (last (λ p. eqb p.compatibility_mask mask) platforms)
