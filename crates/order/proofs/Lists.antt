-- The headers of two sheets, one a reordering of the other, pair off within each list.
use Rattle.rows.{proofs.Kit.{◌≡◌, refl, ◌∙◌, ap, sym, List, ℕ, ◌+◌, ◌<◌, ◌≤◌, arith}, specs.Paired.{Paired, Free}}
use Rattle.igvm_defs.{specs.Kinds.{platform_list, initialization_list, directive_list, kind_of}, proofs.KindLaws.Local}
use Rattle.sheet.{specs.Head.{Limits, head_of, row_count}, specs.Table.{row_kind, body_of, headers_of}, specs.Read.Readable, proofs.Readable.{readable_length, platform_row, initialization_row, directive_row}}
use Rattle.platform_header.{specs.Platforms.platform_of, proofs.PlatformLaws.platform_local}
use Rattle.initialization_header.{specs.Initializations.initialization_of, proofs.InitializationLaws.initialization_local}
use Rattle.directive_header.{specs.Directives.directive_of, proofs.DirectiveLaws.{directive_local, area_directive}}
use Rattle.sheet_headers.specs.Headers.{sheet_headers}
use Rattle.rules.specs.Reordered.{SameMask, SameArea}
use Rattle.order.specs.Reordered.{Alike, PairedRows, Reordered}
use Rattle.order.proofs.ReadableToo.{heads, readable_too}
use Rattle.rules.specs.Reordered as rules

-- rows alike have one header
pub header_same : {H : Type 0} (list : ℕ) (decode : ℕ → List ℕ → H) → Local list decode → (l : Limits) (a b : List ℕ) → Readable l a → Readable l b
    → (k m : ℕ) → k < row_count (head_of a) → m < row_count (head_of b) → (kind_of (row_kind a k)).list ≡ list → Alike a b k m
    → decode (row_kind b m) (body_of b m) ≡ decode (row_kind a k) (body_of a k)
header_same list decode local l a b oka okb k m u v e A =
    let lengths = readable_length l b okb m v ∙ A.body_length ∙ sym (readable_length l a oka k u) in
    rw A.kind (local (row_kind a k) (body_of b m) (body_of a k) e lengths A.body_fields)

module _ (l : Limits) {a b : List ℕ} (ok : Readable l a) (R : Reordered a b) where
  -- One list. The rows of b stand at first' and are count', which are first and count; they are rewritten in the proofs alone, so that `to` computes.
  unfoldable pub paired_in : {H : Type 0} (list : ℕ) (decode : ℕ → List ℕ → H) → Local list decode → (Tied : H → H → Type 0) (TiedRows : ℕ → ℕ → Type 0)
      → (first count first' count' : ℕ) → first' ≡ first → count' ≡ count → first + count ≤ row_count (head_of a)
      → ((i : ℕ) → i < count → (kind_of (row_kind a (first + i))).list ≡ list)
      → ((i j : ℕ) → i < count → j < count → Tied ((headers_of decode a first count).row i) ((headers_of decode a first count).row j)
      → TiedRows (first + i) (first + j))
      → PairedRows a b TiedRows first count → Paired Tied (headers_of decode a first count) (headers_of decode b first' count')
  paired_in list decode local Tied TiedRows first count first' count' ef ec inside lists ties P =
      record {
        to = P.to;
        from = P.from;
        to_below = λ i u. rw ec (P.to_below i u);
        from_below = λ j u. P.from_below j (rw ec at u);
        from_to = P.from_to;
        to_from = λ j u. P.to_from j (rw ec at u);
        same = λ i u.
            let t = P.to_below i u in
            let v : first + P.to i < row_count (head_of b) = rw (heads R) (omega arith) in
            rw ef (header_same list decode local l a b ok (readable_too l ok R) (first + i) (first + P.to i) (omega arith) v (lists i u) (P.alike i u));
        keeps = λ i j u v t. P.keeps i j u v (ties i j (omega arith) v t);
      }

  pub directive_in : (i : ℕ) → i < (head_of a).directives → (kind_of (row_kind a ((head_of a).platforms + (head_of a).initializations + i))).list ≡ directive_list
  directive_in i u = directive_row l a ok _ (omega arith) (omega arith)

  unfoldable pub headers_reordered : rules.Reordered (sheet_headers a) (sheet_headers b)
  unfolding sheet_headers platform_of
  headers_reordered =
      record {
        arch = rw (heads R);
        platforms = paired_in platform_list platform_of platform_local SameMask _ _ _ _ _ refl (ap (λ h. h.platforms) (heads R)) (omega arith)
            (λ i u. platform_row l a ok _ (omega arith)) (λ i j u v t. t) R.platforms;
        initializations = paired_in initialization_list initialization_of initialization_local Free _ _ _ _ _ (ap (λ h. h.platforms) (heads R))
            (ap (λ h. h.initializations) (heads R)) (omega arith) (λ i u. initialization_row l a ok _ (omega arith) (omega arith)) (λ i j u v t. absurd t)
            R.initializations;
        directives = paired_in directive_list directive_of directive_local SameArea _ _ _ _ _ (ap (λ h. h.platforms + h.initializations) (heads R))
            (ap (λ h. h.directives) (heads R)) (omega arith) directive_in
            (λ i j u v t. let (x, p, q) = t in
            (x, rw (area_directive _ (directive_in i u)) at p, rw (area_directive _ (directive_in j v)) at q)) R.directives;
      }
