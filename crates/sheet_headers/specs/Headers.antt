-- The headers of a sheet: its architecture and its three lists.
use Rattle.std.specs.Prelude.{ℕ, ◌+◌, List}
use Rattle.igvm_defs.specs.Revision.{arch_of}
use Rattle.sheet.specs.Head.{head_of, revision_of}
use Rattle.sheet.specs.Table.{headers_of}
use Rattle.rules.specs.Headers.{Headers}
use Rattle.platform_header.specs.Platforms.{platform_of}
use Rattle.initialization_header.specs.Initializations.{initialization_of}
use Rattle.directive_header.specs.Directives.{directive_of}

unfoldable pub sheet_headers : List ℕ → Headers
sheet_headers s =
    record {
      arch = arch_of (revision_of (head_of s));
      platforms = headers_of platform_of s 0 (head_of s).platforms;
      initializations = headers_of initialization_of s (head_of s).platforms (head_of s).initializations;
      directives = headers_of directive_of s ((head_of s).platforms + (head_of s).initializations) (head_of s).directives;
    }
