-- A place in a sheet: the row reached, from 0, and where its body starts.
use Rattle.std.specs.Prelude.{ℕ, ◌+◌, ◌*◌, ◌≤◌, false, List, ◌≡◌, length}
use Rattle.rows.specs.Below.{any_below}
use Rattle.igvm_defs.specs.Kinds.{kind_of}
use Rattle.igvm_defs.specs.Refusals.{is_fault}
use Rattle.sheet.specs.declared.Cursor.{Cursor}
use Rattle.sheet.specs.Head.{head_of, row_count}
use Rattle.sheet.specs.Table.{row_kind, row_length, offset_of}
use Rattle.sheet.specs.Read.{row_fault}

-- the cursor at row k
abbrev pub cursor_at : List ℕ → ℕ → Cursor
cursor_at s k = record { row = k; at = offset_of s k }

-- the cursor stands at a row of a sheet: table and body lie in the sheet, and the body is as long as its kind asks
pub record AtRow (s : List ℕ) (c : Cursor) : Type 0 where
  pub offset : c.at ≡ offset_of s c.row
  pub table : 24 + 8 * c.row ≤ length s
  pub room : c.at + row_length s c.row ≤ length s
  pub least : (kind_of (row_kind s c.row)).least ≤ row_length s c.row

-- no row before row k has a fault of reading
abbrev pub Passed : List ℕ → ℕ → Type 0
Passed s k = any_below k (λ j. is_fault (row_fault s j)) ≡ false

-- the cursor stands at row k or behind the last row, its body starts in the sheet, and no row before it has a fault of reading
pub record ReadTo (s : List ℕ) (c : Cursor) : Type 0 where
  pub at : c ≡ cursor_at s c.row
  pub high : c.row ≤ row_count (head_of s)
  pub room : c.at ≤ length s
  pub passed : Passed s c.row
