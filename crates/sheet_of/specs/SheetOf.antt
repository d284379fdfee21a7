-- The sheet made of rows: the head, a table of contents with kind and body length of each row, then the bodies in row order, without gaps.
-- Rows are numbered from 0 here, across the lists; the head says how many each list has.
use Rattle.std.specs.Prelude.{ℕ, ◌+◌, ◌<◌, List, ◌∷◌, ◌++◌, length}
use Rattle.rows.specs.Rows.{Rows}
use Rattle.le.specs.Bytes.{concat_below, le_bytes}
use Rattle.igvm_defs.specs.Revision.{arch_of}
use Rattle.sheet.specs.declared.SheetHead.{SheetHead}
use Rattle.sheet.specs.Head.{Limits, row_count, revision_of}
use Rattle.platform_header.specs.Platforms.{platform_of}
use Rattle.initialization_header.specs.Initializations.{initialization_of}
use Rattle.directive_header.specs.Directives.{directive_of}
use Rattle.rules.specs.Headers.{Headers}

-- a row: its kind and its body
pub record Row : Type 0 where
  pub kind : ℕ
  pub body : List ℕ

-- the head in 16 bytes
unfoldable pub head_bytes : SheetHead → List ℕ
head_bytes h =
    h.revision
    ∷ h.arch
    ∷ le_bytes 2 h.reserved
    ++ le_bytes 4 h.page_size
    ++ le_bytes 2 h.platforms
    ++ le_bytes 2 h.initializations
    ++ le_bytes 2 h.directives
    ++ le_bytes 2 h.reserved2

-- a row of the table of contents, 8 bytes
unfoldable pub entry_bytes : Row → List ℕ
entry_bytes r = le_bytes 4 r.kind ++ le_bytes 4 (length r.body)

unfoldable pub sheet_of : SheetHead → (ℕ → Row) → List ℕ
sheet_of h row =
    head_bytes h ++ concat_below (row_count h) (λ k. entry_bytes (row k)) ++ concat_below (row_count h) (λ k. (row k).body)

-- the fields of head and table hold their numbers
pub record Fits (h : SheetHead) (row : ℕ → Row) : Type 0 where
  pub reserved : h.reserved < 65536
  pub page_size_lem : h.page_size < 4294967296
  pub platforms : h.platforms < 65536
  pub initializations : h.initializations < 65536
  pub directives : h.directives < 65536
  pub reserved2 : h.reserved2 < 65536
  pub kind : (k : ℕ) → k < row_count h → (row k).kind < 4294967296
  pub body : (k : ℕ) → k < row_count h → length (row k).body < 4294967296

-- so do the limits
pub record LimitsFit (l : Limits) : Type 0 where
  pub platforms : l.platforms < 65536
  pub initializations : l.initializations < 65536
  pub directives : l.directives < 65536
  pub bytes : l.bytes < 4294967296

-- ---- the headers that head and rows say

-- of `count` rows from row `first` on
abbrev pub decoded : {H : Type 0} → (ℕ → List ℕ → H) → (ℕ → Row) → ℕ → ℕ → Rows H
decoded decode row first count = record { count = count; row = λ i. decode (row (first + i)).kind (row (first + i)).body }

unfoldable pub row_headers : SheetHead → (ℕ → Row) → Headers
row_headers h row =
    record {
      arch = arch_of (revision_of h);
      platforms = decoded platform_of row 0 h.platforms;
      initializations = decoded initialization_of row h.platforms h.initializations;
      directives = decoded directive_of row (h.platforms + h.initializations) h.directives;
    }
