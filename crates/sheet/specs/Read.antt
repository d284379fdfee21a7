-- Which of the refusals 1 to 7 a byte string meets first. It is a readable sheet where it meets none of 1 to 6.
use Rattle.std.specs.Prelude.{ℕ, ◌+◌, Bool, true, false, cond, not, ◌&&◌, List, ◌≡◌, leb, ltb, eqb, length}
use Rattle.le.specs.Le.{byte_at}
use Rattle.igvm_defs.specs.declared.Fault.{Fault}
use Rattle.igvm_defs.specs.declared.Refusal.{Refusal}
use Rattle.igvm_defs.specs.Refusals.{fault, no_fault, is_refusal, refuse, in_row, or_else, first_fault}
use Rattle.igvm_defs.specs.Kinds.{platform_list, initialization_list, directive_list, kind_of, length_ok}
use Rattle.sheet.specs.declared.SheetHead.{SheetHead}
use Rattle.sheet.specs.Head.{Limits, head_of, row_count, start_fault, page_size_fault}
use Rattle.sheet.specs.Table.{row_kind, row_length, offset_of, body_of}

-- the list that row k stands in
unfoldable pub list_at : SheetHead → ℕ → ℕ
list_at h k = cond (ltb k h.platforms) platform_list (cond (ltb k (h.platforms + h.initializations)) initialization_list directive_list)

-- codes in range: the VTL of 18, 19, 47 and 48 up to 2, the flags of 18 up to 7, protectable of 44 up to 1
unfoldable pub codes_ok : ℕ → List ℕ → Bool
codes_ok kind body =
    cond (eqb kind 18) (leb (byte_at body 47) 2 && leb (byte_at body 44) 7)
    (cond (eqb kind 19) (leb (byte_at body 30) 2)
    (cond (eqb kind 44) (leb (byte_at body 16) 1)
    (cond (eqb kind 47) (leb (byte_at body 4) 2)
    (cond (eqb kind 48) (leb (byte_at body 4) 2)
    true))))

unfoldable pub row_fault : List ℕ → ℕ → Fault
row_fault s k =
    refuse (not (eqb (kind_of (row_kind s k)).list (list_at (head_of s) k))) (fault 4 0)
    (refuse (not (length_ok (kind_of (row_kind s k)) (row_length s k))) (fault 5 0)
    (refuse (ltb (length s) (offset_of s k + row_length s k)) (fault 1 0)
    (refuse (not (codes_ok (row_kind s k) (body_of s k))) (fault 5 0)
    no_fault)))

-- 6: bytes left over after the last body
unfoldable pub end_fault : List ℕ → Fault
end_fault s = refuse (ltb (offset_of s (row_count (head_of s))) (length s)) (fault 6 0) no_fault

-- the rows in turn, then what is left over
unfoldable pub rows_refusal : List ℕ → Refusal
rows_refusal s = or_else (first_fault 0 (row_count (head_of s)) (row_fault s)) (in_row 0 (end_fault s))

-- 1 to 6
unfoldable pub read_refusal : Limits → List ℕ → Refusal
read_refusal l s = or_else (in_row 0 (start_fault l s)) (rows_refusal s)

abbrev pub Readable : Limits → List ℕ → Type 0
Readable l s = is_refusal (read_refusal l s) ≡ false

-- 1 to 7
unfoldable pub sheet_refusal : Limits → List ℕ → Refusal
sheet_refusal l s = or_else (read_refusal l s) (in_row 0 (page_size_fault (head_of s)))
