-- What is known of a row that the sheet reader reads where its body may end behind the sheet.
use Rattle.rows.proofs.Kit.{◌≡◌, refl, ap, Bool, true, false, cond, List, ℕ, ◌+◌, ◌<◌, ◌≤◌, leb, length, take, drop, leb-true}
use Rattle.std.specs.Prelude.{Some, None}
use Rattle.sheet.{specs.declared.Cursor.Cursor, specs.Head.{head_of, row_count}, specs.Table.{row_kind, row_length, offset_of, body_of}, specs.Walk.ReadTo, proofs.Readable.RowOk, proofs.ReadLaws.read_more}
use Rattle.sheet_reader.specs.{declared.SheetRow.SheetRow, Reading.{row_of, read_at, cursor_after}}

-- the row is there: it is r, and its body lies in the sheet
pub record Found (s : List ℕ) (row at : ℕ) (r : SheetRow) : Type 0 where
  pub kind : r.kind ≡ row_kind s row
  pub size : r.length ≡ row_length s row
  pub room : at + r.length ≤ length s

module _ (s : List ℕ) (row at : ℕ) where
  -- a row that is read is there
  pub row_found : (r : SheetRow) → Some r ≡ read_at s row at → Found s row at r
  unfolding read_at
  row_found r e = go (leb (at + row_length s row) (length s)) refl e
    where
      go : (b : Bool) → leb (at + row_length s row) (length s) ≡ b → Some r ≡ cond b (Some (row_of s row)) None → Found s row at r
      go true h e =
          let is : r ≡ row_of s row = cc in
          rw is (record { kind = refl; size = refl; room = leb-true _ _ h })
      go false h e = absurd (let no : ⊥ = cc in no)

-- ---- as far as the rows were read: the row's room, and one row more

module _ (s : List ℕ) (c : Cursor) (read : ReadTo s c) (r : SheetRow) (f : Found s c.row c.at r) where
  pub room_row : offset_of s c.row + row_length s c.row ≤ length s
  room_row = rw (← ap (λ (x : Cursor). x.at) read.at, ← f.size) f.room

  pub body_found : take r.length (drop c.at s) ≡ body_of s c.row
  unfolding body_of
  body_found = rw (f.size, ap (λ (x : Cursor). x.at) read.at)

  pub read_after : c.row < row_count (head_of s) → RowOk s c.row → ReadTo s (cursor_after c r)
  read_after l ok = rw f.size (read_more s c read l ok)
