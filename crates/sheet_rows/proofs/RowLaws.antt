-- Laws of the loops that read the rows: pages pass, and the first row with a fault stops the reading.
use Rattle.rows.proofs.Kit.{◌≡◌, ap, true, arith, List, length, ℕ, ◌+◌, ◌<◌, ◌≤◌, zero-add, le-leb}
use Rattle.igvm_defs.{specs.Kinds.{kind_of, spans, length_ok}, specs.Refusals.{is_fault, in_row}, proofs.{RefusalLaws.{row_refusal_lem, or_else_first, fault_stop}, LengthLaws.length_least}}
use Rattle.sheet.{specs.declared.Cursor.Cursor, specs.Head.{head_of, first_directive, row_count, bodies_at}, specs.Table.{row_kind, row_length}, specs.Read.{codes_ok, row_fault, end_fault, rows_refusal}, specs.Walk.{cursor_at, AtRow, Passed, ReadTo}, proofs.{Readable.{RowOk, directive_list_lem, offset_next}, ReadLaws.read_more}}
use Rattle.sheet_reader.{specs.declared.SheetRow.SheetRow, proofs.ReaderLaws.{Found, room_row}}

-- a page of data among the directives, long enough for its fields
pub page_reads : (s : List ℕ) (c : Cursor) → ReadTo s c → first_directive s ≤ c.row → (r : SheetRow) → Found s c.row c.at r → r.kind ≡ 32 → 18 ≤ r.length
    → RowOk s c.row
unfolding kind_of spans length_ok codes_ok
page_reads s c read d r f page least =
    let kind : row_kind s c.row ≡ 32 = rw (← f.kind) page in
    record { list = rw (kind, directive_list_lem (head_of s) c.row d); long = rw kind (le-leb 18 (row_length s c.row) (rw (← f.size) least)); room = room_row s c read r f; codes = rw kind }

-- the first row with a fault
pub rows_stop : (s : List ℕ) (k : ℕ) → k < row_count (head_of s) → Passed s k → is_fault (row_fault s k) ≡ true
    → rows_refusal s ≡ in_row (k + 1) (row_fault s k)
unfolding rows_refusal
rows_stop s k l h e =
    rw (fault_stop 0 (row_count (head_of s)) (row_fault s) k l h e, zero-add)
    (or_else_first (in_row (k + 1) (row_fault s k)) (in_row 0 (end_fault s)) (rw row_refusal_lem e))

-- a row with no fault: the cursor stands at it, and behind it the rows are read so far
module _ (s : List ℕ) (c : Cursor) (read : ReadTo s c) (l : c.row < row_count (head_of s)) (ok : RowOk s c.row) where
  pub stands_at : bodies_at (head_of s) ≤ length s → AtRow s c
  stands_at table =
      let o = ap (λ (x : Cursor). x.at) read.at in
      let room = ok.room in
      record { offset = o; table = omega arith; room = omega arith; least = length_least _ _ ok.long }

  pub read_next : ReadTo s (cursor_at s (c.row + 1))
  read_next =
      let o = ap (λ (x : Cursor). x.at) read.at in
      rw (offset_next s c.row, ← o) (read_more s c read l ok)
