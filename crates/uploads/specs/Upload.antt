-- What a desk is given: revision, arch and page size at its opening, then rows, each a kind and a body. A row's kind tells its list.
use Rattle.std.specs.Prelude.{ℕ, Bool, cond, List, [], eqb}
use Rattle.rows.specs.Rows.{Rows, more}
use Rattle.igvm_defs.specs.Kinds.{platform_list, initialization_list, directive_list, kind_of}
use Rattle.sheet.specs.declared.SheetHead.{SheetHead}
use Rattle.rules.specs.Headers.{Headers}
use Rattle.sheet_of.specs.SheetOf.{Row, sheet_of}
use Rattle.sheet_of.specs.Lists.{RowLists, all_rows, head_with, lists_sheet, lists_headers}

pub record Upload : Type 0 where
  pub revision : ℕ
  pub arch : ℕ
  pub page_size : ℕ
  -- the rows of each list, in the order in which they came
  pub rows : RowLists

-- ---- the sheet made of the rows

-- the head's numbers that are offered; its zeroes are zero, and its counts those of the lists
abbrev pub open_head : ℕ → ℕ → ℕ → SheetHead
open_head revision arch size =
    record {
      revision = revision;
      arch = arch;
      reserved = 0;
      page_size = size;
      platforms = 0;
      initializations = 0;
      directives = 0;
      reserved2 = 0;
    }

abbrev pub upload_head : Upload → SheetHead
upload_head u = head_with (open_head u.revision u.arch u.page_size) u.rows

abbrev pub upload_sheet : Upload → List ℕ
upload_sheet u = sheet_of (upload_head u) (all_rows u.rows).row

-- the headers that its rows say
abbrev pub upload_headers : Upload → Headers
upload_headers u = lists_headers (open_head u.revision u.arch u.page_size) u.rows

-- ---- an upload without rows, and one row more

abbrev pub no_rows : Rows Row
no_rows = record { count = 0; row = λ _. record { kind = 0; body = [] } }

abbrev pub opened : ℕ → ℕ → ℕ → Upload
opened revision arch size =
    record { revision = revision; arch = arch; page_size = size; rows = record { platforms = no_rows; initializations = no_rows; directives = no_rows } }

-- the list of a row, by its kind; 0 is no list
abbrev pub row_list : Row → ℕ
row_list r = (kind_of r.kind).list

-- a list with the row behind its rows, where the row is of that list
abbrev pub list_with : ℕ → Rows Row → Row → Rows Row
list_with list xs r = cond (eqb (row_list r) list) (more xs r) xs

abbrev pub with_row : Upload → Row → Upload
with_row u r =
    record {
      revision = u.revision;
      arch = u.arch;
      page_size = u.page_size;
      rows = record {
        platforms = list_with platform_list u.rows.platforms r;
        initializations = list_with initialization_list u.rows.initializations r;
        directives = list_with directive_list u.rows.directives r;
      };
    }
