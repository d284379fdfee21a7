-- The table of platform types: each type's version, whether its shared GPA boundary must be 0, and the architectures that it may stand with.
use Rattle.std.specs.Prelude.{ℕ, Bool, true, false, List, [], ◌∷◌, ltb, length, get_or}
use Rattle.igvm_defs.specs.declared.PlatformType.{PlatformType}

abbrev pub platform_type : ℕ → Bool → Bool → Bool → PlatformType
platform_type version unshared x64 aarch64 = record { version = version; unshared = unshared; x64 = x64; aarch64 = aarch64 }

-- from 0 on; versions are those of igvm_defs
unfoldable pub platform_types : List PlatformType
platform_types =
    platform_type 1 true true false  -- 0 NATIVE
    ∷ platform_type 1 true true true  -- 1 VSM_ISOLATION
    ∷ platform_type 1 false true false  -- 2 SEV_SNP
    ∷ platform_type 1 false true false  -- 3 TDX
    ∷ platform_type 1 false true false  -- 4 SEV
    ∷ platform_type 1 false true false  -- 5 SEV_ES
    ∷ platform_type 1 false false true  -- 6 CCA
    ∷ []

-- a type that is in the table
unfoldable pub is_platform_type : ℕ → Bool
is_platform_type type = ltb type (length platform_types)

-- a type that is not in the table stands with no architecture
abbrev pub no_platform_type : PlatformType
no_platform_type = platform_type 0 false false false

unfoldable pub platform_type_of : ℕ → PlatformType
platform_type_of type = get_or platform_types type no_platform_type
