-- What holds of a readable sheet: its head and its rows pass, and the bodies end where the sheet does. Both ways.
use Rattle.rows.{proofs.Kit.{◌≡◌, refl, true, false, not, ◌||◌, List, ◌↔◌, ℕ, zero, suc, ◌+◌, ◌<◌, ◌≤◌, arith, add-one, leb, ltb, eqb, length, length-take, length-drop, leb-true, le-leb, ltb-false, le-ltb, lt-ltb, eqb-true, eq-eqb, not-false}, specs.Below.{any_below, sum_below}, proofs.Bools.{or_false_parts, and_parts}, proofs.BelowLaws.{none_any, sum_more}}
use Rattle.le.specs.Le.{byte_at}
use Rattle.igvm_defs.{specs.Refusals.{is_fault, is_refusal}, specs.Kinds.{platform_list, initialization_list, directive_list, kind_of, length_ok}, specs.Revision.page_size_of, proofs.RefusalLaws.{no_fault_lem, refuse_fault, row_refusal_lem, else_refusal, faults_any}, proofs.LengthLaws.length_least}
use Rattle.sheet.specs.{declared.Cursor.Cursor, declared.SheetHead.SheetHead, Head.{Limits, limits, platform_rows, initialization_rows, directive_rows, sheet_bytes, head_of, row_count, bodies_at, layout_ok, within_limits, start_fault, revision_of, page_size_fault}, Table.{row_kind, row_length, offset_of, body_of}, Read.{list_at, codes_ok, row_fault, end_fault, rows_refusal, read_refusal, Readable, sheet_refusal}, Walk.{cursor_at, AtRow}}

-- ---- whether a fault or a refusal is met, as one test
start_fault_lem : (l : Limits) (s : List ℕ) → is_fault (start_fault l s)
    ≡ (ltb (length s) 16 || (not (layout_ok (head_of s)) || (not (within_limits l (head_of s) (length s)) || (ltb (length s) (bodies_at (head_of s)) || false))))
unfolding start_fault
start_fault_lem l s = rw (refuse_fault, refuse_fault, refuse_fault, refuse_fault, no_fault_lem)

row_fault_lem : (s : List ℕ) (k : ℕ) → is_fault (row_fault s k)
    ≡ (not (eqb (kind_of (row_kind s k)).list (list_at (head_of s) k)) || (not (length_ok (kind_of (row_kind s k)) (row_length s k))
    || (ltb (length s) (offset_of s k + row_length s k) || (not (codes_ok (row_kind s k) (body_of s k)) || false))))
unfolding row_fault
row_fault_lem s k = rw (refuse_fault, refuse_fault, refuse_fault, refuse_fault, no_fault_lem)

end_fault_lem : (s : List ℕ) → is_fault (end_fault s) ≡ (ltb (offset_of s (row_count (head_of s))) (length s) || false)
unfolding end_fault
end_fault_lem s = rw (refuse_fault, no_fault_lem)

read_refusal_lem : (l : Limits) (s : List ℕ) → is_refusal (read_refusal l s)
    ≡ (is_fault (start_fault l s) || (any_below (row_count (head_of s)) (λ k. is_fault (row_fault s k)) || is_fault (end_fault s)))
unfolding read_refusal rows_refusal
read_refusal_lem l s = rw (else_refusal, row_refusal_lem, else_refusal, faults_any, row_refusal_lem)

-- ---- the start
-- the head and the table are there, within their layout and the limits
pub record Started (l : Limits) (s : List ℕ) : Type 0 where
  pub head : 16 ≤ length s
  pub layout : layout_ok (head_of s) ≡ true
  pub platforms : (head_of s).platforms ≤ l.platforms
  pub initializations : (head_of s).initializations ≤ l.initializations
  pub directives : (head_of s).directives ≤ l.directives
  pub bytes : length s ≤ l.bytes
  pub table : bodies_at (head_of s) ≤ length s

within_says : (l : Limits) (h : SheetHead) (n : ℕ)
    → (within_limits l h n ≡ true) ↔ ((h.platforms ≤ l.platforms) × (h.initializations ≤ l.initializations) × (h.directives ≤ l.directives) × (n ≤ l.bytes))
unfolding within_limits
within_says l h n = (there, λ (a, b, c, d). rw (le-leb _ _ a, le-leb _ _ b, le-leb _ _ c, le-leb _ _ d))
  where
    there : within_limits l h n ≡ true → (h.platforms ≤ l.platforms) × (h.initializations ≤ l.initializations) × (h.directives ≤ l.directives) × (n ≤ l.bytes)
    there e =
        let (x, bytes) = and_parts _ (leb n l.bytes) e in
        let (y, directives) = and_parts _ (leb h.directives l.directives) x in
        let (platforms, initializations) = and_parts (leb h.platforms l.platforms) (leb h.initializations l.initializations) y in
        (leb-true _ _ platforms, leb-true _ _ initializations, leb-true _ _ directives, leb-true _ _ bytes)

pub start_says : (l : Limits) (s : List ℕ) → (is_fault (start_fault l s) ≡ false) ↔ Started l s
start_says l s = (there, back)
  where
    there : is_fault (start_fault l s) ≡ false → Started l s
    there e =
        let (a, f) = or_false_parts (ltb (length s) 16) _ (rw (start_fault_lem l s) at e) in
        let (b, g) = or_false_parts (not (layout_ok (head_of s))) _ f in
        let (c, h) = or_false_parts (not (within_limits l (head_of s) (length s))) _ g in
        let (d, z) = or_false_parts (ltb (length s) (bodies_at (head_of s))) _ h in
        let (p, i, r, n) = (within_says l (head_of s) (length s)).0 (not-false _ c) in
        record {
          head = ltb-false _ _ a;
          layout = not-false _ b;
          platforms = p;
          initializations = i;
          directives = r;
          bytes = n;
          table = ltb-false _ _ d;
        }

    back : Started l s → is_fault (start_fault l s) ≡ false
    back st =
        rw (
          start_fault_lem l s,
          le-ltb _ _ st.head,
          st.layout,
          (within_says l (head_of s) (length s)).1 (st.platforms, st.initializations, st.directives, st.bytes),
          le-ltb _ _ st.table,
        )

-- the bounds of the limits in force
pub record Bounds (s : List ℕ) : Type 0 where
  pub head : 16 ≤ length s
  pub platforms : (head_of s).platforms ≤ platform_rows
  pub initializations : (head_of s).initializations ≤ initialization_rows
  pub directives : (head_of s).directives ≤ directive_rows
  pub bytes : length s ≤ sheet_bytes
  pub table : bodies_at (head_of s) ≤ length s

pub started_bounds : (s : List ℕ) → Started limits s → Bounds s
unfolding limits
started_bounds s st = omega arith

-- ---- a row
-- of its list, of a length that its kind allows, its body in the sheet and its codes in range
pub record RowOk (s : List ℕ) (k : ℕ) : Type 0 where
  pub list : (kind_of (row_kind s k)).list ≡ list_at (head_of s) k
  pub long : length_ok (kind_of (row_kind s k)) (row_length s k) ≡ true
  pub room : offset_of s k + row_length s k ≤ length s
  pub codes : codes_ok (row_kind s k) (body_of s k) ≡ true

pub row_says : (s : List ℕ) (k : ℕ) → (is_fault (row_fault s k) ≡ false) ↔ RowOk s k
row_says s k = (there, back)
  where
    there : is_fault (row_fault s k) ≡ false → RowOk s k
    there e =
        let (a, f) = or_false_parts (not (eqb (kind_of (row_kind s k)).list (list_at (head_of s) k))) _ (rw (row_fault_lem s k) at e) in
        let (b, g) = or_false_parts (not (length_ok (kind_of (row_kind s k)) (row_length s k))) _ f in
        let (c, h) = or_false_parts (ltb (length s) (offset_of s k + row_length s k)) _ g in
        let (d, z) = or_false_parts (not (codes_ok (row_kind s k) (body_of s k))) _ h in
        record { list = eqb-true _ _ (not-false _ a); long = not-false _ b; room = ltb-false _ _ c; codes = not-false _ d }

    back : RowOk s k → is_fault (row_fault s k) ≡ false
    back r = rw (row_fault_lem s k, eq-eqb _ _ r.list, r.long, le-ltb _ _ r.room, r.codes)

-- ---- offsets and bodies, of any byte string
pub offset_first : (s : List ℕ) → offset_of s 0 ≡ bodies_at (head_of s)
unfolding offset_of sum_below
offset_first s = omega arith

pub offset_next : (s : List ℕ) (k : ℕ) → offset_of s (k + 1) ≡ offset_of s k + row_length s k
unfolding offset_of
offset_next s k = omega (arith, sum_more k (row_length s))

pub body_length_lem : (s : List ℕ) (k : ℕ) → offset_of s k + row_length s k ≤ length s → length (body_of s k) ≡ row_length s k
unfolding body_of
body_length_lem s k r = simp (length-take, length-drop) (omega arith)

-- the body that a cursor stands at is as long as its kind asks
pub body_least : (s : List ℕ) (c : Cursor) → AtRow s c → (kind_of (row_kind s c.row)).least ≤ length (body_of s c.row)
body_least s c a = rw (body_length_lem s c.row (rw (← a.offset) a.room)) a.least

-- ---- the sheet
-- the start passes, each row passes, and the bodies end where the sheet does
pub record Reads (l : Limits) (s : List ℕ) : Type 0 where
  pub start : Started l s
  pub row : (k : ℕ) → k < row_count (head_of s) → RowOk s k
  pub whole : offset_of s (row_count (head_of s)) ≡ length s

-- where the start and every row pass, each body starts in the sheet
offset_within : (s : List ℕ) → bodies_at (head_of s) ≤ length s → ((k : ℕ) → k < row_count (head_of s) → RowOk s k)
    → (k : ℕ) → k ≤ row_count (head_of s) → offset_of s k ≤ length s
offset_within s t rows zero h = rw (offset_first s) t
offset_within s t rows (suc k) h = rw (← add-one k, offset_next s k) (rows k h).room

pub readable_says : (l : Limits) (s : List ℕ) → Readable l s ↔ Reads l s
readable_says l s = (there, back)
  where
    n : ℕ
    n = row_count (head_of s)

    there : Readable l s → Reads l s
    there ok =
        let (a, f) = or_false_parts (is_fault (start_fault l s)) _ (rw (read_refusal_lem l s) at ok) in
        let (b, c) = or_false_parts (any_below n (λ k. is_fault (row_fault s k))) _ f in
        let (d, z) = or_false_parts (ltb (offset_of s n) (length s)) _ (rw (end_fault_lem s) at c) in
        let start = (start_says l s).0 a in
        let row : (k : ℕ) → k < n → RowOk s k = λ k h. (row_says s k).0 ((none_any n (λ k. is_fault (row_fault s k))).0 b k h) in
        let low = ltb-false (offset_of s n) (length s) d in let high = offset_within s start.table row n (omega arith) in
        record { start = start; row = row; whole = omega arith }

    back : Reads l s → Readable l s
    back r =
        let rows : any_below n (λ k. is_fault (row_fault s k)) ≡ false = (none_any n (λ k. is_fault (row_fault s k))).1 (λ k h. (row_says s k).1 (r.row k h)) in
        let w = r.whole in
        rw (read_refusal_lem l s, (start_says l s).1 r.start, rows, end_fault_lem s, le-ltb (offset_of s n) (length s) (omega arith))

-- ---- the list that row k stands in
pub platform_list_lem : (h : SheetHead) (k : ℕ) → k < h.platforms → list_at h k ≡ platform_list
unfolding list_at
platform_list_lem h k a = rw (lt-ltb _ _ a)

pub initialization_list_lem : (h : SheetHead) (k : ℕ) → h.platforms ≤ k → k < h.platforms + h.initializations → list_at h k ≡ initialization_list
unfolding list_at
initialization_list_lem h k a b = rw (le-ltb _ _ a, lt-ltb _ _ b)

pub directive_list_lem : (h : SheetHead) (k : ℕ) → h.platforms + h.initializations ≤ k → list_at h k ≡ directive_list
unfolding list_at
directive_list_lem h k a = rw (le-ltb k h.platforms (omega arith), le-ltb _ _ a)

-- ---- codes in range, of kind 18
pub codes_18 : (b : List ℕ) → codes_ok 18 b ≡ true → (byte_at b 47 ≤ 2) × (byte_at b 44 ≤ 7)
unfolding codes_ok
codes_18 b e = let (v, f) = and_parts (leb (byte_at b 47) 2) (leb (byte_at b 44) 7) e in (leb-true _ _ v, leb-true _ _ f)

-- ---- what follows for a readable sheet
module _ (l : Limits) (s : List ℕ) (ok : Readable l s) where
  pub readable_reads : Reads l s
  readable_reads = (readable_says l s).0 ok

  pub readable_row : (k : ℕ) → k < row_count (head_of s) → RowOk s k
  readable_row = readable_reads.row

  pub readable_end : offset_of s (row_count (head_of s)) ≡ length s
  readable_end = readable_reads.whole

  pub readable_length : (k : ℕ) → k < row_count (head_of s) → length (body_of s k) ≡ row_length s k
  readable_length k h = body_length_lem s k (readable_row k h).room

  pub at_row : (k : ℕ) → k < row_count (head_of s) → AtRow s (cursor_at s k)
  at_row k h =
      let st = readable_reads.start in let r = readable_row k h in
      record {
        offset = refl;
        table = omega arith;
        room = r.room;
        least = length_least (kind_of (row_kind s k)) (row_length s k) r.long;
      }

  -- the list of a row's kind, by where the row stands
  pub platform_row : (k : ℕ) → k < (head_of s).platforms → (kind_of (row_kind s k)).list ≡ platform_list
  platform_row k h = rw (readable_row k (omega arith)).list (platform_list_lem (head_of s) k h)

  pub initialization_row : (k : ℕ) → (head_of s).platforms ≤ k → k < (head_of s).platforms + (head_of s).initializations
      → (kind_of (row_kind s k)).list ≡ initialization_list
  initialization_row k g h = rw (readable_row k (omega arith)).list (initialization_list_lem (head_of s) k g h)

  pub directive_row : (k : ℕ) → (head_of s).platforms + (head_of s).initializations ≤ k → k < row_count (head_of s)
      → (kind_of (row_kind s k)).list ≡ directive_list
  directive_row k g h = rw (readable_row k h).list (directive_list_lem (head_of s) k g)

pub readable_bounds : (s : List ℕ) → Readable limits s → Bounds s
readable_bounds s ok = started_bounds s (readable_reads limits s ok).start

-- ---- refusals 1 to 7
page_size_fault_lem : (h : SheetHead) → is_fault (page_size_fault h) ≡ (not (eqb (page_size_of (revision_of h)) 4096) || false)
unfolding page_size_fault
page_size_fault_lem h = rw (refuse_fault, no_fault_lem)

pub sheet_says : (l : Limits) (s : List ℕ)
    → (is_refusal (sheet_refusal l s) ≡ false) ↔ (Readable l s × (page_size_of (revision_of (head_of s)) ≡ 4096))
unfolding sheet_refusal
sheet_says l s = (there, back)
  where
    size : ℕ
    size = page_size_of (revision_of (head_of s))

    there : is_refusal (sheet_refusal l s) ≡ false → Readable l s × (size ≡ 4096)
    there e =
        let (a, b) = or_false_parts (is_refusal (read_refusal l s)) _ (rw (else_refusal, row_refusal_lem, page_size_fault_lem (head_of s)) at e) in
        let (c, z) = or_false_parts (not (eqb size 4096)) _ b in
        (a, eqb-true _ _ (not-false _ c))

    back : Readable l s × (size ≡ 4096) → is_refusal (sheet_refusal l s) ≡ false
    back (ok, e) = rw (else_refusal, row_refusal_lem, page_size_fault_lem (head_of s), ok, eq-eqb size 4096 e)
