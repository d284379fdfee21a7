-- What the sheet reader reads at a row, from 0.
use Rattle.std.specs.Prelude.{ℕ, ◌+◌, cond, List, leb, length, Option, Some, None}
use Rattle.std.specs.Borrow.{Bor}
use Rattle.sheet.specs.declared.Cursor.{Cursor}
use Rattle.sheet.specs.Table.{row_kind, row_length}
use Rattle.sheet.specs.Walk.{cursor_at}
use Rattle.sheet_reader.specs.declared.SheetReader.{SheetReader}
use Rattle.sheet_reader.specs.declared.SheetRow.{SheetRow}

-- kind and body length
abbrev pub row_of : List ℕ → ℕ → SheetRow
row_of s row = record { kind = row_kind s row; length = row_length s row }

-- the same where the row's body, from a place on, ends in the sheet; none where it ends behind it
unfoldable pub read_at : List ℕ → ℕ → ℕ → Option SheetRow
read_at s row at = cond (leb (at + row_length s row) (length s)) (Some (row_of s row)) None

-- the place after the row that stands at a place
abbrev pub cursor_after : Cursor → SheetRow → Cursor
cursor_after c r = record { row = c.row + 1; at = c.at + r.length }

-- the reader of the bytes, at a cursor
abbrev pub reader_at : Bor (List ℕ) → Cursor → SheetReader
reader_at b c = record { bytes = b; cursor = c }

-- the reader of the same bytes, at the row after its row
abbrev pub advanced : SheetReader → SheetReader
advanced r = reader_at r.bytes (cursor_at r.bytes.now (r.cursor.row + 1))
