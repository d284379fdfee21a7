-- Laws of `rows_refusal` and `sheet_refusal`, for the passes that compute them: how far the rows were read, and what each says at the end.
use Rattle.rows.{proofs.Kit.{◌≡◌, refl, sym, ap, true, false, List, ℕ, ◌+◌, ◌<◌, ◌≤◌, arith, length}, specs.Below.any_below, proofs.BelowLaws.any_more}
use Rattle.igvm_defs.{specs.Refusals.{no_refusal, is_fault, is_refusal, in_row}, proofs.RefusalLaws.{row_refusal_lem, or_else_first, or_else_later, fault_end}}
use Rattle.sheet.specs.{declared.Cursor.Cursor, Head.{Limits, head_of, row_count, bodies_at, start_fault, page_size_fault}, Table.{row_length, offset_of}, Read.{row_fault, end_fault, rows_refusal, read_refusal, sheet_refusal}, Walk.{Passed, ReadTo}}
use Rattle.sheet.proofs.Readable.{RowOk, row_says, offset_first, offset_next}

passed_none : (s : List ℕ) → Passed s 0
unfolding any_below
passed_none s = refl

pub passed_more : (s : List ℕ) (k : ℕ) → Passed s k → is_fault (row_fault s k) ≡ false → Passed s (k + 1)
passed_more s k h e = rw (any_more, h, e)

-- ---- as far as the rows were read

pub read_none : (s : List ℕ) → bodies_at (head_of s) ≤ length s → ReadTo s (record { row = 0; at = bodies_at (head_of s) })
read_none s l = record { at = ap (λ (a : ℕ). record { row = 0; at = a }) (sym (offset_first s)); high = omega arith; room = l; passed = passed_none s }

-- one row more, with no fault of reading
pub read_more : (s : List ℕ) (c : Cursor) → ReadTo s c → c.row < row_count (head_of s) → RowOk s c.row
    → ReadTo s (record { row = c.row + 1; at = c.at + row_length s c.row })
read_more s c r l ok =
    let e : c.at ≡ offset_of s c.row = ap (λ (x : Cursor). x.at) r.at in
    let n = offset_next s c.row in let o = ok.room in
    let next : c.at + row_length s c.row ≡ offset_of s (c.row + 1) = omega arith in
    record {
      at = ap (λ (a : ℕ). record { row = c.row + 1; at = a }) next;
      high = omega arith;
      room = omega arith;
      passed = passed_more s c.row r.passed ((row_says s c.row).1 ok);
    }

-- ---- the rows
pub rows_end : (s : List ℕ) → Passed s (row_count (head_of s)) → rows_refusal s ≡ in_row 0 (end_fault s)
unfolding rows_refusal is_refusal
rows_end s h = rw (fault_end 0 (row_count (head_of s)) (row_fault s) h) (or_else_later no_refusal (in_row 0 (end_fault s)) refl)

-- ---- the sheet
module _ (l : Limits) (s : List ℕ) where
  pub start_stop : is_fault (start_fault l s) ≡ true → sheet_refusal l s ≡ in_row 0 (start_fault l s)
  unfolding sheet_refusal read_refusal
  start_stop e =
      let r : is_refusal (in_row 0 (start_fault l s)) ≡ true = rw row_refusal_lem e in
      rw (or_else_first (in_row 0 (start_fault l s)) (rows_refusal s) r, or_else_first (in_row 0 (start_fault l s)) (in_row 0 (page_size_fault (head_of s))) r)

  pub sheet_stop : is_fault (start_fault l s) ≡ false → is_refusal (rows_refusal s) ≡ true → sheet_refusal l s ≡ rows_refusal s
  unfolding sheet_refusal read_refusal
  sheet_stop e r =
      rw (or_else_later (in_row 0 (start_fault l s)) (rows_refusal s) (rw row_refusal_lem e), or_else_first (rows_refusal s) (in_row 0 (page_size_fault (head_of s))) r)

  pub sheet_end : is_fault (start_fault l s) ≡ false → is_refusal (rows_refusal s) ≡ false → sheet_refusal l s ≡ in_row 0 (page_size_fault (head_of s))
  unfolding sheet_refusal read_refusal
  sheet_end e r =
      rw (or_else_later (in_row 0 (start_fault l s)) (rows_refusal s) (rw row_refusal_lem e), or_else_later (rows_refusal s) (in_row 0 (page_size_fault (head_of s))) r)
