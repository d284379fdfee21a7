-- The sheet made of three lists of rows, and the three lists of a sheet.
use Rattle.std.specs.Prelude.{ℕ, ◌+◌, List}
use Rattle.rows.specs.Rows.{Rows}
use Rattle.rows.specs.Lists.{joined, mapped}
use Rattle.igvm_defs.specs.Revision.{arch_of}
use Rattle.sheet.specs.declared.SheetHead.{SheetHead}
use Rattle.sheet.specs.Head.{head_of, revision_of}
use Rattle.sheet.specs.Table.{headers_of}
use Rattle.platform_header.specs.Platforms.{platform_of}
use Rattle.initialization_header.specs.Initializations.{initialization_of}
use Rattle.directive_header.specs.Directives.{directive_of}
use Rattle.rules.specs.Headers.{Headers}
use Rattle.sheet_of.specs.SheetOf.{Row, sheet_of}

pub record RowLists : Type 0 where
  pub platforms : Rows Row
  pub initializations : Rows Row
  pub directives : Rows Row

-- the rows across the lists
abbrev pub all_rows : RowLists → Rows Row
all_rows x = joined x.platforms (joined x.initializations x.directives)

-- the head with the counts of the lists
abbrev pub head_with : SheetHead → RowLists → SheetHead
head_with h x =
    record {
      revision = h.revision;
      arch = h.arch;
      reserved = h.reserved;
      page_size = h.page_size;
      platforms = x.platforms.count;
      initializations = x.initializations.count;
      directives = x.directives.count;
      reserved2 = h.reserved2;
    }

unfoldable pub lists_sheet : SheetHead → RowLists → List ℕ
lists_sheet h x = sheet_of (head_with h x) (all_rows x).row

-- ---- the rows of a sheet

abbrev pub row_of : ℕ → List ℕ → Row
row_of kind body = record { kind = kind; body = body }

unfoldable pub sheet_rows : List ℕ → RowLists
sheet_rows s =
    record {
      platforms = headers_of row_of s 0 (head_of s).platforms;
      initializations = headers_of row_of s (head_of s).platforms (head_of s).initializations;
      directives = headers_of row_of s ((head_of s).platforms + (head_of s).initializations) (head_of s).directives;
    }

-- ---- the headers of lists of rows

abbrev pub decoded_by : {H : Type 0} → (ℕ → List ℕ → H) → Row → H
decoded_by decode r = decode r.kind r.body

unfoldable pub lists_headers : SheetHead → RowLists → Headers
lists_headers h x =
    record {
      arch = arch_of (revision_of h);
      platforms = mapped (decoded_by platform_of) x.platforms;
      initializations = mapped (decoded_by initialization_of) x.initializations;
      directives = mapped (decoded_by directive_of) x.directives;
    }
