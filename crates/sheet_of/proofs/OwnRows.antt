-- The rows of a readable sheet: they pass, the sheet is as long as they say, and it is the sheet made of them.
use lib.Seq.{take-add, take-length, drop-drop}
use Rattle.rows.{proofs.Kit.{◌≡◌, refl, sym, ap, ◌∙◌, Bool, true, false, cond, not, ◌&&◌, ◌||◌, List, [], ◌∷◌, ◌++◌, ℕ, ◌+◌, ◌*◌, ◌<◌, zero-add, arith, eqb, leb, length, take, drop, take-suc, eqb-true}, specs.Below.sum_below, proofs.Bools.and_parts, proofs.BelowLaws.{sum_split, sum_cong}}
use Rattle.le.{specs.Le.byte_at, specs.Bytes.{IsBytes, le_bytes}, proofs.BytesLaws.{concat_same, concat_parts, sum_alike, bytes_back}}
use Rattle.igvm_defs.{specs.Kinds.{platform_list, initialization_list, directive_list}, specs.declared.IgvmRevision.TheVariants.{V1, V2}, specs.Revision.page_size_of}
use Rattle.sheet.{specs.declared.SheetHead.SheetHead, specs.Head.{Limits, head_of, row_count, layout_ok, arch_code, revision_of}, specs.Table.{row_kind, row_length, offset_of, body_of}, specs.Read.{list_at, Readable}, proofs.Readable.{Started, readable_reads, readable_row, readable_end, readable_length, platform_list_lem, initialization_list_lem, directive_list_lem}}
use Rattle.sheet_headers.specs.Headers.{sheet_headers}
use Rattle.sheet_of.specs.{SheetOf.{Row, head_bytes, entry_bytes, sheet_of}, Lists.{all_rows, lists_sheet, row_of, sheet_rows, lists_headers}}
use Rattle.sheet_of.proofs.{SheetOfLaws.sheet_same, ListsLaws.{Passes, AllPass, In, platform, initialization, directive, in_list}}

-- ---- the rows of a readable sheet

module _ (l : Limits) (s : List ℕ) (ok : Readable l s) (small : l.bytes < 4294967296) where
  row_of_lem : (k list : ℕ) → k < row_count (head_of s) → list_at (head_of s) k ≡ list
      → Passes list (row_of (row_kind s k) (body_of s k)) × (length (body_of s k) < 4294967296)
  row_of_lem k list m e =
      let r = readable_row l s ok k m in
      let n = readable_length l s ok k m in
      let b = (readable_reads l s ok).start.bytes in
      let room = r.room in
      (record { of_list = r.list ∙ e; long = rw n r.long; codes = r.codes }, omega arith)

  pub platforms_pass : AllPass platform_list (sheet_rows s).platforms
  unfolding sheet_rows
  platforms_pass i m = row_of_lem (0 + i) platform_list (omega arith) (platform_list_lem (head_of s) (0 + i) (omega arith))

  pub initializations_pass : AllPass initialization_list (sheet_rows s).initializations
  unfolding sheet_rows
  initializations_pass i m = row_of_lem ((head_of s).platforms + i) initialization_list (omega arith) (initialization_list_lem (head_of s) _ (omega arith) (omega arith))

  pub directives_pass : AllPass directive_list (sheet_rows s).directives
  unfolding sheet_rows
  directives_pass i m = row_of_lem ((head_of s).platforms + (head_of s).initializations + i) directive_list (omega arith) (directive_list_lem (head_of s) _ (omega arith))

  -- the sheet's bytes, by its lists
  pub sheet_bytes_lem : length s
      ≡ 16 + 8 * ((sheet_rows s).platforms.count + (sheet_rows s).initializations.count + (sheet_rows s).directives.count)
      + (sum_below (sheet_rows s).platforms.count (λ i. length ((sheet_rows s).platforms.row i).body)
      + (sum_below (sheet_rows s).initializations.count (λ i. length ((sheet_rows s).initializations.row i).body)
      + sum_below (sheet_rows s).directives.count (λ i. length ((sheet_rows s).directives.row i).body)))
  unfolding sheet_rows offset_of
  sheet_bytes_lem =
      let p = (head_of s).platforms in
      let n = (head_of s).initializations in
      let d = (head_of s).directives in
      let e = readable_end l s ok in
      let a = sum_split (p + n) d (row_length s) in
      let b = sum_split p n (row_length s) in
      let ep : sum_below p (λ i. length (body_of s (0 + i))) ≡ sum_below p (row_length s) =
      sum_cong p _ _ (λ i m. rw zero-add (readable_length l s ok i (omega arith))) in
      let en : sum_below n (λ i. length (body_of s (p + i))) ≡ sum_below n (λ i. row_length s (p + i)) =
      sum_cong n _ _ (λ i m. readable_length l s ok (p + i) (omega arith)) in
      let ed : sum_below d (λ i. length (body_of s (p + n + i))) ≡ sum_below d (λ i. row_length s (p + n + i)) =
      sum_cong d _ _ (λ i m. readable_length l s ok (p + n + i) (omega arith)) in
      omega arith

-- the headers of a sheet are those of its rows
pub sheet_headers_lem : (s : List ℕ) → sheet_headers s ≡ lists_headers (head_of s) (sheet_rows s)
unfolding sheet_headers lists_headers sheet_rows
sheet_headers_lem s = refl

-- ---- the head of a sheet that is not refused

layout_parts : (a b c d e : Bool) → (a && b && c && d && e) ≡ true → (c ≡ true) × (d ≡ true) × (e ≡ true)
layout_parts a b c d e h =
    let (x, p) = and_parts (a && b && c && d) e h in
    let (y, q) = and_parts (a && b && c) d x in
    let (_, r) = and_parts (a && b) c y in (r, q, p)

pub head_zeroes : (h : SheetHead) → layout_ok h ≡ true → (h.reserved ≡ 0) × (h.reserved2 ≡ 0)
unfolding layout_ok
head_zeroes h e =
    let (r, q, _) = layout_parts (eqb h.revision 1 || eqb h.revision 2) (leb h.arch 1) (eqb h.reserved 0) (eqb h.reserved2 0) _ e in
    (eqb-true h.reserved 0 r, eqb-true h.reserved2 0 q)

pub head_page_size : (h : SheetHead) → layout_ok h ≡ true → page_size_of (revision_of h) ≡ 4096 → h.page_size < 4294967296
unfolding layout_ok revision_of
head_page_size h e = go (eqb h.revision 1) (layout_parts (eqb h.revision 1 || eqb h.revision 2) (leb h.arch 1) (eqb h.reserved 0) (eqb h.reserved2 0) _ e).2
  where
    go : (b : Bool) → (not b || eqb h.arch 0 && eqb h.page_size 0) ≡ true
        → page_size_of (cond b V1 (V2 (arch_code h.arch) h.page_size)) ≡ 4096 → h.page_size < 4294967296
    go true z p = let q = eqb-true h.page_size 0 (and_parts (eqb h.arch 0) (eqb h.page_size 0) z).1 in omega arith
    go false z p = omega arith

-- ---- the sheet made of its own rows

-- row k of a sheet
abbrev own_row : List ℕ → ℕ → Row
own_row s k = row_of (row_kind s k) (body_of s k)

module _ (l : Limits) (s : List ℕ) (ok : Readable l s) (bytes : IsBytes s) where
  started : Started l s
  started = (readable_reads l s ok).start

  head_there : head_bytes (head_of s) ≡ take 16 s
  unfolding head_bytes head_of
  head_there =
      let st = started in
      let two : take 2 s ≡ byte_at s 0 ∷ byte_at s 1 ∷ [] = take-suc s 1 0 (omega arith) ∙ rw (take-suc s 0 0 (omega arith)) in
      rw (
        bytes_back 2 2 s bytes (omega arith),
        bytes_back 4 4 s bytes (omega arith),
        bytes_back 2 8 s bytes (omega arith),
        bytes_back 2 10 s bytes (omega arith),
        bytes_back 2 12 s bytes (omega arith),
        bytes_back 2 14 s bytes (omega arith),
        take-add 14 2 s,
        take-add 12 2 s,
        take-add 10 2 s,
        take-add 8 2 s,
        take-add 4 4 s,
        take-add 2 2 s,
        two,
      )

  length_there : (k : ℕ) → k < row_count (head_of s) → le_bytes 4 (row_length s k) ≡ take 4 (drop (20 + 8 * k) s)
  unfolding row_length
  length_there k below = let st = started in bytes_back 4 (20 + 8 * k) s bytes (omega arith)

  entry_there : (k : ℕ) → k < row_count (head_of s) → entry_bytes (own_row s k) ≡ take 8 (drop (16 + sum_below k (λ _. 8)) s)
  unfolding entry_bytes row_kind
  entry_there k below =
      let st = started in
      let z : 16 + 8 * k + 4 ≡ 20 + 8 * k = omega arith in
      rw (
        sum_alike k 8,
        readable_length l s ok k below,
        bytes_back 4 (16 + 8 * k) s bytes (omega arith),
        take-add 4 4 (drop (16 + 8 * k) s),
        drop-drop 4 (16 + 8 * k) s,
        z,
      ) (ap (λ (x : List ℕ). take 4 (drop (16 + 8 * k) s) ++ x) (length_there k below))

  -- A READABLE SHEET IS MADE OF ITS OWN ROWS
  pub own_sheet : sheet_of (head_of s) (own_row s) ≡ s
  unfolding sheet_of body_of offset_of
  own_sheet =
      let n = row_count (head_of s) in
      let whole : 16 + 8 * n + sum_below n (row_length s) ≡ length s = readable_end l s ok in
      rw (
        head_there,
        concat_same n (λ k. entry_bytes (own_row s k)) (λ k. take 8 (drop (16 + sum_below k (λ _. 8)) s)) entry_there,
        concat_parts n 16 (λ _. 8) s,
        concat_parts n (16 + 8 * n) (row_length s) s,
        sum_alike n 8,
        ← take-add 16 (8 * n) s,
        ← take-add (16 + 8 * n) (sum_below n (row_length s)) s,
        whole,
        take-length s,
      )

  -- and of its three lists
  own_row_lem : (k : ℕ) → In (sheet_rows s) k → (all_rows (sheet_rows s)).row k ≡ own_row s k
  unfolding sheet_rows
  own_row_lem k (platform i z m e) = e ∙ ap (own_row s) (let y : 0 + i ≡ k = omega arith in y)
  own_row_lem k (initialization i z m e) = e ∙ ap (own_row s) (sym z)
  own_row_lem k (directive i z m e) = e ∙ ap (own_row s) (let y : (head_of s).platforms + (head_of s).initializations + i ≡ k = omega arith in y)

  pub own_lists : lists_sheet (head_of s) (sheet_rows s) ≡ s
  unfolding lists_sheet sheet_rows
  own_lists = sheet_same (head_of s) (all_rows (sheet_rows s)).row (own_row s) (λ k m. own_row_lem k (in_list (sheet_rows s) k m)) ∙ own_sheet
