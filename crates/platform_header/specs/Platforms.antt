-- The header that a platform row's kind and body say.
use Rattle.std.specs.Prelude.{ℕ, List}
use Rattle.le.specs.Le.{byte_at, le_at}
use Rattle.platform_header.specs.declared.IgvmPlatformHeader.{IgvmPlatformHeader}

-- 1: mask u32, highest VTL u8, type u8, version u16, boundary u64
abbrev pub supported_platform_of : List ℕ → IgvmPlatformHeader
supported_platform_of b =
    record {
      compatibility_mask = le_at 4 b 0;
      highest_vtl = byte_at b 4;
      platform_type = byte_at b 5;
      platform_version = le_at 2 b 6;
      shared_gpa_boundary = le_at 8 b 8;
    }

-- kind 1 is the only one of the list
unfoldable pub platform_of : ℕ → List ℕ → IgvmPlatformHeader
platform_of kind b = supported_platform_of b
