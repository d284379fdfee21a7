-- The sheet made of rows gives back head, kinds, lengths and bodies.
use lib.ListN.{get_or-append}
use lib.Seq.{get_or-append-add}
use Rattle.rows.{proofs.Kit.{◌≡◌, refl, sym, ap, ◌∙◌, ℕ, suc, ◌+◌, ◌-◌, ◌*◌, ◌<◌, ◌≤◌, arith, List, ◌++◌, append_assoc, length, length-append}, specs.Below.sum_below, proofs.BelowLaws.sum_cong}
use Rattle.le.{specs.Le.byte_at, specs.Bytes.{concat_below, le_bytes}, proofs.BytesLaws.{part_at, concat_length, concat_at, concat_same, sum_alike, le_length, le_of_bytes}}
use Rattle.sheet.{specs.declared.SheetHead.SheetHead, specs.Head.{limits, head_of, row_count, bodies_at}, specs.Table.{row_kind, row_length, offset_of, body_of}}
use Rattle.sheet_of.specs.SheetOf.{Row, head_bytes, entry_bytes, sheet_of, Fits, LimitsFit}

-- the limits in force
pub limits_fit : LimitsFit limits
unfolding limits
limits_fit = record { platforms = omega arith; initializations = omega arith; directives = omega arith; bytes = omega arith }

pub head_length : (h : SheetHead) → length (head_bytes h) ≡ 16
unfolding head_bytes le_bytes concat_below
head_length h = refl

pub entry_length : (r : Row) → length (entry_bytes r) ≡ 8
unfolding entry_bytes
entry_length r = rw (length-append, le_length 4 r.kind, le_length 4 (length r.body))

module _ (h : SheetHead) (row : ℕ → Row) where
  table : ℕ → List ℕ
  table n = concat_below n (λ k. entry_bytes (row k))

  bodies : ℕ → List ℕ
  bodies n = concat_below n (λ k. (row k).body)

  table_length : (n : ℕ) → length (table n) ≡ 8 * n
  unfolding table
  table_length n = concat_length n _ ∙ sum_cong n _ _ (λ k l. entry_length (row k)) ∙ sum_alike n 8

  pub sheet_length : length (sheet_of h row) ≡ bodies_at h + sum_below (row_count h) (λ k. length (row k).body)
  unfolding sheet_of table
  sheet_length =
      rw (length-append, length-append, concat_length (row_count h) (λ k. (row k).body), head_length h, table_length (row_count h)) (omega arith)

  -- entry k of the table, with what stands before and behind it
  behind_entry : ℕ → List ℕ
  behind_entry k = concat_below (row_count h - suc k) (λ i. entry_bytes (row (suc k + i))) ++ bodies (row_count h)

  entry_at : (k : ℕ) → k < row_count h → sheet_of h row ≡ (head_bytes h ++ table k) ++ (entry_bytes (row k) ++ behind_entry k)
  unfolding sheet_of table bodies behind_entry
  entry_at k l = rw (concat_at (row_count h) (λ i. entry_bytes (row i)) k l) (simp append_assoc)

  behind_body : ℕ → List ℕ
  behind_body k = concat_below (row_count h - suc k) (λ i. (row (suc k + i)).body)

  body_at : (k : ℕ) → k < row_count h → sheet_of h row ≡ (head_bytes h ++ table (row_count h) ++ bodies k) ++ ((row k).body ++ behind_body k)
  unfolding sheet_of table bodies behind_body
  body_at k l = rw (concat_at (row_count h) (λ i. (row i).body) k l) (simp append_assoc)

  -- ---- its bytes
  pub head_byte : (j : ℕ) → j < 16 → byte_at (sheet_of h row) j ≡ byte_at (head_bytes h) j
  unfolding sheet_of
  head_byte j l = simp append_assoc (get_or-append (head_bytes h) _ 0 j (rw (head_length h) l))

  pub entry_byte : (k m : ℕ) → k < row_count h → m < 8 → byte_at (sheet_of h row) (16 + 8 * k + m) ≡ byte_at (entry_bytes (row k)) m
  entry_byte k m l b =
      let z : 16 + 8 * k ≡ length (head_bytes h ++ table k) = rw (length-append, head_length h, table_length k) in
      rw (entry_at k l, z) (get_or-append-add (head_bytes h ++ table k) _ m 0 ∙ get_or-append (entry_bytes (row k)) _ 0 m (rw (entry_length (row k)) b))

  pub body_byte : (k m : ℕ) → k < row_count h → m < length (row k).body
      → byte_at (sheet_of h row) (bodies_at h + sum_below k (λ i. length (row i).body) + m) ≡ byte_at (row k).body m
  unfolding bodies
  body_byte k m l b =
      let z : bodies_at h + sum_below k (λ i. length (row i).body) ≡ length (head_bytes h ++ table (row_count h) ++ bodies k) =
      rw (length-append, length-append, head_length h, table_length (row_count h), concat_length k (λ i. (row i).body)) (omega arith) in
      rw (body_at k l, z) (get_or-append-add (head_bytes h ++ table (row_count h) ++ bodies k) _ m 0 ∙ get_or-append (row k).body _ 0 m b)

  module _ (f : Fits h row) where
    pub head_is : head_of (sheet_of h row) ≡ h
    unfolding head_of sheet_of head_bytes le_bytes concat_below
    head_is =
        rw (
          le_of_bytes 2 h.reserved 2 (sheet_of h row) f.reserved refl,
          le_of_bytes 4 h.page_size 4 (sheet_of h row) f.page_size_lem refl,
          le_of_bytes 2 h.platforms 8 (sheet_of h row) f.platforms refl,
          le_of_bytes 2 h.initializations 10 (sheet_of h row) f.initializations refl,
          le_of_bytes 2 h.directives 12 (sheet_of h row) f.directives refl,
          le_of_bytes 2 h.reserved2 14 (sheet_of h row) f.reserved2 refl,
        )

    pub kind_is : (k : ℕ) → k < row_count h → row_kind (sheet_of h row) k ≡ (row k).kind
    unfolding row_kind entry_bytes
    kind_is k l =
        let r = behind_entry k in
        let e = entry_at k l in
        le_of_bytes 4 (row k).kind (16 + 8 * k) (sheet_of h row) (f.kind k l)
        (part_at (sheet_of h row) (head_bytes h ++ table k) (le_bytes 4 (row k).kind) (le_bytes 4 (length (row k).body) ++ r) (16 + 8 * k) 4
        (e ∙ simp append_assoc) (rw (length-append, head_length h, table_length k)) (le_length 4 (row k).kind))

    pub length_is : (k : ℕ) → k < row_count h → row_length (sheet_of h row) k ≡ length (row k).body
    unfolding row_length entry_bytes
    length_is k l =
        let r = behind_entry k in
        let e = entry_at k l in
        le_of_bytes 4 (length (row k).body) (20 + 8 * k) (sheet_of h row) (f.body k l)
        (part_at (sheet_of h row) ((head_bytes h ++ table k) ++ le_bytes 4 (row k).kind) (le_bytes 4 (length (row k).body)) r (20 + 8 * k) 4
        (e ∙ simp append_assoc) (rw (length-append, length-append, head_length h, table_length k, le_length 4 (row k).kind) (omega arith))
        (le_length 4 (length (row k).body)))

    pub offset_is : (k : ℕ) → k ≤ row_count h → offset_of (sheet_of h row) k ≡ bodies_at h + sum_below k (λ i. length (row i).body)
    unfolding offset_of
    offset_is k l =
        rw (head_is, sum_cong k (row_length (sheet_of h row)) (λ i. length (row i).body) (λ i m. length_is i (omega arith)))

    pub body_is : (k : ℕ) → k < row_count h → body_of (sheet_of h row) k ≡ (row k).body
    unfolding body_of bodies
    body_is k l =
        let r = behind_body k in
        let e = body_at k l in
        let before : length (head_bytes h ++ table (row_count h) ++ concat_below k (λ i. (row i).body)) ≡ offset_of (sheet_of h row) k =
        rw (length-append, length-append, head_length h, table_length (row_count h), concat_length k (λ i. (row i).body), offset_is k (omega arith)) (omega arith) in
        part_at (sheet_of h row) (head_bytes h ++ table (row_count h) ++ concat_below k (λ i. (row i).body)) (row k).body r _ _ e before (sym (length_is k l))

-- rows that are the same make the same sheet
pub sheet_same : (h : SheetHead) (row other : ℕ → Row) → ((k : ℕ) → k < row_count h → row k ≡ other k) → sheet_of h row ≡ sheet_of h other
unfolding sheet_of
sheet_same h row other e =
    rw (
      concat_same (row_count h) (λ k. entry_bytes (row k)) (λ k. entry_bytes (other k)) (λ k l. ap entry_bytes (e k l)),
      concat_same (row_count h) (λ k. (row k).body) (λ k. (other k).body) (λ k l. ap (λ (r : Row). r.body) (e k l)),
    )
