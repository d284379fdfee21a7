-- Which numbers the refusals of reading may have: 1 to 7, or 0 where nothing is refused.
use Rattle.rows.{proofs.Kit.{Bool, true, false, cond, not, Option, none, some, List, ℕ, ◌+◌, ◌≤◌, arith, eqb, ltb, length}, specs.Below.first_below}
use Rattle.igvm_defs.specs.{declared.Fault.Fault, declared.Refusal.Refusal, Refusals.{refusal, no_refusal, fault, no_fault, is_fault, is_refusal, refuse, in_row, or_else, refusal_at, first_fault}, Kinds.{kind_of, length_ok}, Revision.{page_size, page_size_of}}
use Rattle.sheet.specs.{declared.SheetHead.SheetHead, Head.{Limits, head_of, row_count, bodies_at, layout_ok, within_limits, start_fault, revision_of, page_size_fault}, Table.{row_kind, row_length, offset_of, body_of}, Read.{list_at, codes_ok, row_fault, end_fault, rows_refusal, read_refusal, sheet_refusal}}

-- ---- chains of tests

-- the number of the fault is at most 7
record Most (f : Fault) : Type 0 where
  most : f.number ≤ 7

-- a test, then the later tests
test : (b : Bool) (n d : ℕ) (later : Fault) → n ≤ 7 → Most later → Most (refuse b (fault n d) later)
test true n d later l h = record { most = l }
test false n d later l h = h

no_more : Most no_fault
no_more = record { most = omega arith }

-- the start: 1 to 3
start_most : (l : Limits) (s : List ℕ) → Most (start_fault l s)
unfolding start_fault
start_most l s =
    test (ltb (length s) 16) 1 0 _ (omega arith)
    (test (not (layout_ok (head_of s))) 2 0 _ (omega arith)
    (test (not (within_limits l (head_of s) (length s))) 3 0 _ (omega arith)
    (test (ltb (length s) (bodies_at (head_of s))) 1 0 no_fault (omega arith)
    no_more)))

-- a row: 1, 4 and 5
row_most : (s : List ℕ) (k : ℕ) → Most (row_fault s k)
unfolding row_fault
row_most s k =
    test (not (eqb (kind_of (row_kind s k)).list (list_at (head_of s) k))) 4 0 _ (omega arith)
    (test (not (length_ok (kind_of (row_kind s k)) (row_length s k))) 5 0 _ (omega arith)
    (test (ltb (length s) (offset_of s k + row_length s k)) 1 0 _ (omega arith)
    (test (not (codes_ok (row_kind s k) (body_of s k))) 5 0 no_fault (omega arith)
    no_more)))

-- bytes left over: 6
end_most : (s : List ℕ) → Most (end_fault s)
unfolding end_fault
end_most s = test (ltb (offset_of s (row_count (head_of s))) (length s)) 6 0 no_fault (omega arith) no_more

-- the page size: 7
page_size_most : (h : SheetHead) → Most (page_size_fault h)
unfolding page_size_fault
page_size_most h = test (not (eqb (page_size_of (revision_of h)) page_size)) 7 (page_size_of (revision_of h)) no_fault (omega arith) no_more

-- ---- refusals

-- the refusal has the number of the fault
fault_most : (row : ℕ) (f : Fault) → Most f → (in_row row f).number ≤ 7
unfolding in_row
fault_most row f h = go (is_fault f)
  where
    go : (b : Bool) → (cond b (refusal f.number row f.detail) no_refusal).number ≤ 7
    go true = h.most
    go false = omega arith

-- so has that of the first row with a fault
first_most : (first n : ℕ) (f : ℕ → Fault) → ((i : ℕ) → Most (f i)) → (first_fault first n f).number ≤ 7
unfolding first_fault
first_most first n f h = go (first_below n (λ i. is_fault (f i)))
  where
    go : (o : Option ℕ) → (refusal_at first f o).number ≤ 7
    go none = omega arith
    go (some i) = (h i).most

-- one refusal, else another
else_most : (r later : Refusal) → r.number ≤ 7 → later.number ≤ 7 → (or_else r later).number ≤ 7
unfolding or_else
else_most r later k h = go (is_refusal r)
  where
    go : (b : Bool) → (cond b r later).number ≤ 7
    go true = k
    go false = h

-- a refusal of reading has a number of 1 to 7, and it is 0 where nothing is refused
pub sheet_most : (l : Limits) (s : List ℕ) → (sheet_refusal l s).number ≤ 7
unfolding sheet_refusal read_refusal rows_refusal
sheet_most l s =
    else_most (read_refusal l s) _
    (else_most (in_row 0 (start_fault l s)) _ (fault_most 0 (start_fault l s) (start_most l s))
    (else_most (first_fault 0 (row_count (head_of s)) (row_fault s)) _ (first_most 0 (row_count (head_of s)) (row_fault s) (row_most s))
    (fault_most 0 (end_fault s) (end_most s))))
    (fault_most 0 (page_size_fault (head_of s)) (page_size_most (head_of s)))
