-- The sheet made of three lists of rows: when it is readable, what its headers are, and when it is accepted.
use Rattle.rows.{proofs.Kit.{◌≡◌, refl, ap, ◌∙◌, true, false, ◌⊎◌, inl, inr, ℕ, ◌+◌, ◌*◌, ◌<◌, ◌≤◌, zero-add, arith, length, eq-eqb, le-leb}, specs.Below.sum_below, specs.Rows.Rows, specs.Same.SameRows, specs.Lists.joined, proofs.JoinedLaws.{left_row, right_row, Side, lead, follow, side, sum_joined, joined_rows}}
use Rattle.igvm_defs.{specs.Refusals.{is_fault, is_refusal}, specs.Kinds.{platform_list, initialization_list, directive_list, kind_of, length_ok}, specs.Revision.page_size_of, proofs.RefusalLaws.no_fault_lem, proofs.KindLaws.{platform_kind, initialization_kind, directive_kind_lem}}
use Rattle.sheet.{specs.declared.SheetHead.SheetHead, specs.Head.{Limits, head_of, layout_ok, within_limits, revision_of}, specs.Read.{list_at, codes_ok, Readable, sheet_refusal}, proofs.Readable.{platform_list_lem, initialization_list_lem, directive_list_lem, sheet_says}}
use Rattle.rules.{specs.Accepted.NotRefused, proofs.FaultLaws.else_none, proofs.SameHeaders.{SameHeaders, headers_trans, same_refusal}}
use Rattle.sheet_headers.specs.Headers.{sheet_headers}
use Rattle.answers.specs.Verdict.{verdict_refusal}
use Rattle.sheet_of.specs.{SheetOf.{Row, Fits, row_headers}, Offered.{bytes_of, offered_fault}, Lists.{RowLists, all_rows, head_with, lists_sheet, lists_headers}}
use Rattle.sheet_of.proofs.{SheetOfLaws.{head_is, sheet_same}, ReadLaws.{headers_are, readable_is}}

-- ---- a row that passes

-- of its list, as long as its kind allows, codes in range
pub record Passes (list : ℕ) (r : Row) : Type 0 where
  pub of_list : (kind_of r.kind).list ≡ list
  pub long : length_ok (kind_of r.kind) (length r.body) ≡ true
  pub codes : codes_ok r.kind r.body ≡ true

pub passes : (list : ℕ) (r : Row) → Passes list r → is_fault (offered_fault list r) ≡ false
unfolding offered_fault
passes list r p = rw (eq-eqb (kind_of r.kind).list list p.of_list, p.long, p.codes) no_fault_lem

-- every row passes, and is no longer than a length field can say
abbrev pub AllPass : ℕ → Rows Row → Type 0
AllPass list xs = (i : ℕ) → i < xs.count → Passes list (xs.row i) × (length (xs.row i).body < 4294967296)

-- ---- three lists

module _ (x : RowLists) where
  -- row k is a row of one list
  pub data In (k : ℕ) : Type 0 where
    platform : (i : ℕ) → k ≡ i → i < x.platforms.count → (all_rows x).row k ≡ x.platforms.row i → In k
    initialization : (i : ℕ) → k ≡ x.platforms.count + i → i < x.initializations.count → (all_rows x).row k ≡ x.initializations.row i → In k
    directive : (i : ℕ) → k ≡ x.platforms.count + (x.initializations.count + i) → i < x.directives.count → (all_rows x).row k ≡ x.directives.row i → In k

  pub in_list : (k : ℕ) → k < x.platforms.count + x.initializations.count + x.directives.count → In k
  in_list k l = go (side x.platforms (joined x.initializations x.directives) k (omega arith))
    where
      go : Side x.platforms (joined x.initializations x.directives) k → In k
      go (lead m e) = platform k refl m e
      go (follow j m z e) = go2 j z e (side x.initializations x.directives j m)
        where
          go2 : (j : ℕ) → k ≡ x.platforms.count + j → (all_rows x).row k ≡ (joined x.initializations x.directives).row j
              → Side x.initializations x.directives j → In k
          go2 j z e (lead n f) = initialization j z n (e ∙ f)
          go2 j z e (follow i n y f) = directive i (z ∙ ap (λ m. x.platforms.count + m) y) n (e ∙ f)

-- lists with the same rows make the same sheet
pub record SameLists (x y : RowLists) : Type 0 where
  pub platforms : SameRows x.platforms y.platforms
  pub initializations : SameRows x.initializations y.initializations
  pub directives : SameRows x.directives y.directives

pub lists_same : (h : SheetHead) (x y : RowLists) → SameLists x y → lists_sheet h x ≡ lists_sheet h y
unfolding lists_sheet
lists_same h x y S =
    let rows = joined_rows S.platforms (joined_rows S.initializations S.directives) in
    sheet_same (head_with h x) (all_rows x).row (all_rows y).row (λ k l. rows.row k (omega arith))
    ∙ rw (S.platforms.count, S.initializations.count, S.directives.count)

-- all that makes the sheet readable
pub record ListsSound (h : SheetHead) (x : RowLists) : Type 0 where
  pub reserved : h.reserved ≡ 0
  pub reserved2 : h.reserved2 ≡ 0
  pub page_size_lem : h.page_size < 4294967296
  pub layout : layout_ok h ≡ true
  pub platform_count : x.platforms.count < 65536
  pub initialization_count : x.initializations.count < 65536
  pub directive_count : x.directives.count < 65536
  pub platforms : AllPass platform_list x.platforms
  pub initializations : AllPass initialization_list x.initializations
  pub directives : AllPass directive_list x.directives

kind_small : (list : ℕ) (r : Row) → (list ≡ platform_list) ⊎ ((list ≡ initialization_list) ⊎ (list ≡ directive_list)) → Passes list r → r.kind < 4294967296
kind_small list r (inl e) p = let k = platform_kind r.kind (p.of_list ∙ e) in omega arith
kind_small list r (inr (inl e)) p = let k = initialization_kind r.kind (p.of_list ∙ e) in omega arith
kind_small list r (inr (inr e)) p = let k = directive_kind_lem r.kind (p.of_list ∙ e) in omega arith

module _ (h : SheetHead) (x : RowLists) (s : ListsSound h x) where
  row_passes : (k : ℕ) → In x k → Passes (list_at (head_with h x) k) ((all_rows x).row k) × (length ((all_rows x).row k).body < 4294967296) × (((all_rows x).row k).kind < 4294967296)
  row_passes k (platform i z m e) =
      let (p, n) = s.platforms i m in
      rw (e, platform_list_lem (head_with h x) k (omega arith)) (p, n, kind_small platform_list (x.platforms.row i) (inl refl) p)
  row_passes k (initialization i z m e) =
      let (p, n) = s.initializations i m in
      rw (e, initialization_list_lem (head_with h x) k (omega arith) (omega arith)) (p, n, kind_small initialization_list (x.initializations.row i) (inr (inl refl)) p)
  row_passes k (directive i z m e) =
      let (p, n) = s.directives i m in
      rw (e, directive_list_lem (head_with h x) k (omega arith)) (p, n, kind_small directive_list (x.directives.row i) (inr (inr refl)) p)

  pub lists_fit : Fits (head_with h x) (all_rows x).row
  lists_fit =
      record {
        reserved = let e = s.reserved in omega arith;
        page_size_lem = s.page_size_lem;
        platforms = s.platform_count;
        initializations = s.initialization_count;
        directives = s.directive_count;
        reserved2 = let e = s.reserved2 in omega arith;
        kind = λ k m. (row_passes k (in_list x k m)).2;
        body = λ k m. (row_passes k (in_list x k m)).1;
      }

  -- ---- its head and headers
  pub lists_head : head_of (lists_sheet h x) ≡ head_with h x
  unfolding lists_sheet
  lists_head = head_is (head_with h x) (all_rows x).row lists_fit

  decoded_lists : SameHeaders (row_headers (head_with h x) (all_rows x).row) (lists_headers h x)
  unfolding row_headers lists_headers revision_of
  decoded_lists =
      record {
        arch = refl;
        platforms = record { count = refl; row = λ i m. rw (zero-add, left_row x.platforms (joined x.initializations x.directives) i m) };
        initializations = record {
          count = refl;
          row = λ i m. rw (right_row x.platforms (joined x.initializations x.directives) i, left_row x.initializations x.directives i m);
        };
        directives = record {
          count = refl;
          row = λ i m.
              let z : x.platforms.count + x.initializations.count + i ≡ x.platforms.count + (x.initializations.count + i) = omega arith in
              rw (z, right_row x.platforms (joined x.initializations x.directives) (x.initializations.count + i), right_row x.initializations x.directives i);
        };
      }

  pub lists_headers_lem : SameHeaders (sheet_headers (lists_sheet h x)) (lists_headers h x)
  unfolding lists_sheet
  lists_headers_lem = headers_trans (headers_are (head_with h x) (all_rows x).row lists_fit) decoded_lists

  -- ---- readable within the limits
  pub lists_readable : (l : Limits) → within_limits l (head_with h x) (bytes_of (head_with h x) (all_rows x).row) ≡ true → Readable l (lists_sheet h x)
  unfolding lists_sheet layout_ok
  lists_readable l w =
      (readable_is (head_with h x) (all_rows x).row lists_fit l).1 (record {
        layout = s.layout;
        within = w;
        rows = λ k m. passes _ _ (row_passes k (in_list x k m)).0;
      })

-- the bytes of the sheet
pub lists_bytes : (h : SheetHead) (x : RowLists) → bytes_of (head_with h x) (all_rows x).row
    ≡ 16 + 8 * (x.platforms.count + x.initializations.count + x.directives.count)
    + (sum_below x.platforms.count (λ i. length (x.platforms.row i).body) + (sum_below x.initializations.count (λ i. length (x.initializations.row i).body)
    + sum_below x.directives.count (λ i. length (x.directives.row i).body)))
unfolding bytes_of
lists_bytes h x =
    let z : x.platforms.count + x.initializations.count + x.directives.count ≡ x.platforms.count + (x.initializations.count + x.directives.count) = omega arith in
    let e : sum_below (x.platforms.count + x.initializations.count + x.directives.count) (λ k. length ((all_rows x).row k).body)
    ≡ sum_below x.platforms.count (λ i. length (x.platforms.row i).body) + (sum_below x.initializations.count (λ i. length (x.initializations.row i).body)
    + sum_below x.directives.count (λ i. length (x.directives.row i).body)) =
    rw z (sum_joined x.platforms (joined x.initializations x.directives) (λ r. length r.body)
    ∙ ap (λ n. sum_below x.platforms.count (λ i. length (x.platforms.row i).body) + n) (sum_joined x.initializations x.directives (λ r. length r.body))) in
    rw e

-- ---- the verdict on the sheet made of lists

pub within_limits_lem : (l : Limits) (h : SheetHead) (n : ℕ) → h.platforms ≤ l.platforms → h.initializations ≤ l.initializations
    → h.directives ≤ l.directives → n ≤ l.bytes → within_limits l h n ≡ true
unfolding within_limits
within_limits_lem l h n a b c d = rw (le-leb _ _ a, le-leb _ _ b, le-leb _ _ c, le-leb _ _ d)

pub lists_accepted : (l : Limits) (h : SheetHead) (x : RowLists) → ListsSound h x → page_size_of (revision_of h) ≡ 4096
    → within_limits l (head_with h x) (bytes_of (head_with h x) (all_rows x).row) ≡ true → NotRefused (lists_headers h x)
    → is_refusal (verdict_refusal l (lists_sheet h x)) ≡ false
unfolding verdict_refusal revision_of
lists_accepted l h x s p w n =
    (else_none (sheet_refusal l (lists_sheet h x)) _).1 (
      (sheet_says l (lists_sheet h x)).1 (lists_readable h x s l w, rw (lists_head h x s) p),
      rw (same_refusal (lists_headers_lem h x s)) n,
    )
