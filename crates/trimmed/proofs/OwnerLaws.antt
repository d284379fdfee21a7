-- The owner of an address in the trimmed sheet: the old owner in its new row, where it remains, else none.
use Rattle.rows.{proofs.Kit.{◌≡◌, sym, ◌∙◌, true, false, ◌≢◌, List, some, inl, inr, ℕ, arith}, specs.Below.count_below, specs.Lists.remaining_index, proofs.Bools.{which, not_both, is_false}, proofs.BelowLaws.count_lt, proofs.RemainingLaws.{place, index_of}}
use Rattle.igvm_defs.{specs.Refusals.is_refusal, proofs.RefusalLaws.or_else_later}
use Rattle.sheet.specs.Head.{Limits}
use Rattle.sheet_headers.specs.Headers.{sheet_headers}
use Rattle.rules.{specs.Owner.{number_of_row, owner_of}, proofs.SoundLaws.accepted_sound, proofs.OwnerLaws.{owns, owner_once, owner_is, owner_none, owner_says, none_owns}, proofs.SameHeaders.same_owner}
use Rattle.answers.{specs.Verdict.verdict_refusal, specs.Relocations.query_refusal, specs.Owner.region_owner_of, proofs.AnswerLaws.accepted_headers, proofs.OwnerLaws.{query_says, owner_refused, owner_given}}
use Rattle.sheet_of.specs.SheetOf.{LimitsFit}
use Rattle.trimmed.specs.Trimmed.{Remain, trimmed_sheet, Trimmable}
use Rattle.trimmed.proofs.{HeadersLaws.trimmed_headers, SheetLaws.{trimmed_headers_lem, trimmed_not_refused, trimmed_accepted}}

module _ (l : Limits) (fit : LimitsFit l) (remain : Remain) (s : List ℕ) (T : Trimmable l remain s) (given gpa : ℕ) where
  -- ---- on headers, where the mask is not 0

  module _ (nonzero : given ≢ 0) where
    headers_remain : (j : ℕ) → owner_of (sheet_headers s) given gpa ≡ number_of_row (sheet_headers s) (some j) → remain.initializations j ≡ true
        → owner_of (trimmed_headers remain (sheet_headers s)) given gpa ≡ number_of_row (sheet_headers s) (some (count_below j remain.initializations))
    headers_remain j e r =
        let (b, o) = owner_says (sheet_headers s) given gpa j e in
        owner_is (trimmed_headers remain (sheet_headers s)) given gpa
        (owner_once (trimmed_headers remain (sheet_headers s)) (accepted_sound _ (trimmed_not_refused l fit remain s T)) given nonzero gpa)
        (count_below j remain.initializations)
        (count_lt j (sheet_headers s).initializations.count remain.initializations b r)
        (rw (index_of remain.initializations (sheet_headers s).initializations.count j b r) o)

    headers_dropped : (j : ℕ) → owner_of (sheet_headers s) given gpa ≡ number_of_row (sheet_headers s) (some j) → remain.initializations j ≡ false
        → owner_of (trimmed_headers remain (sheet_headers s)) given gpa ≡ 0
    headers_dropped j e r =
        let (b, o) = owner_says (sheet_headers s) given gpa j e in
        let n = (sheet_headers s).initializations.count in
        let once = owner_once (sheet_headers s) (accepted_sound _ (accepted_headers l s T.accepted)) given nonzero gpa in
        owner_none (trimmed_headers remain (sheet_headers s)) given gpa (λ i u.
        is_false (owns (trimmed_headers remain (sheet_headers s)) given gpa i) (λ t.
        let p = place remain.initializations n i u in
        let same = once (remaining_index remain.initializations n i) j p.below b t o in
        not_both r (rw same at p.there)))

    headers_none : owner_of (sheet_headers s) given gpa ≡ 0 → owner_of (trimmed_headers remain (sheet_headers s)) given gpa ≡ 0
    headers_none e =
        owner_none (trimmed_headers remain (sheet_headers s)) given gpa (λ i u.
        none_owns (sheet_headers s) given gpa e _ (place remain.initializations (sheet_headers s).initializations.count i u).below)

  -- ---- on bytes

  query_same : query_refusal l (trimmed_sheet remain s) given ≡ query_refusal l s given
  unfolding query_refusal
  query_same = or_else_later (verdict_refusal l (trimmed_sheet remain s)) _ (trimmed_accepted l fit remain s T) ∙ sym (or_else_later (verdict_refusal l s) _ T.accepted)

  -- not refused, the answer is the owner by the headers
  answer_is : is_refusal (query_refusal l s given) ≡ false
      → (region_owner_of l (trimmed_sheet remain s) given gpa).answer ≡ owner_of (trimmed_headers remain (sheet_headers s)) given gpa
  answer_is f = rw (owner_given l (trimmed_sheet remain s) given gpa (rw query_same f)) (same_owner (trimmed_headers_lem l fit remain s T) given gpa)

  pub owner_remains : (j : ℕ) → (region_owner_of l s given gpa).answer ≡ number_of_row (sheet_headers s) (some j) → remain.initializations j ≡ true
      → (region_owner_of l (trimmed_sheet remain s) given gpa).answer ≡ number_of_row (sheet_headers s) (some (count_below j remain.initializations))
  owner_remains j e r =
      elim (which (is_refusal (query_refusal l s given))) [
        | inl t ↦ let z : 0 ≡ number_of_row (sheet_headers s) (some j) = rw (owner_refused l s given gpa t) at e in absurd (omega arith)
        | inr f ↦ answer_is f ∙ headers_remain ((query_says l s given).0 f).1 j (rw (owner_given l s given gpa f) at e) r
      ]

  pub owner_dropped : (j : ℕ) → (region_owner_of l s given gpa).answer ≡ number_of_row (sheet_headers s) (some j) → remain.initializations j ≡ false
      → (region_owner_of l (trimmed_sheet remain s) given gpa).answer ≡ 0
  owner_dropped j e r =
      elim (which (is_refusal (query_refusal l s given))) [
        | inl t ↦ rw (owner_refused l (trimmed_sheet remain s) given gpa (rw query_same t))
        | inr f ↦ answer_is f ∙ headers_dropped ((query_says l s given).0 f).1 j (rw (owner_given l s given gpa f) at e) r
      ]

  pub no_owner : (region_owner_of l s given gpa).answer ≡ 0 → (region_owner_of l (trimmed_sheet remain s) given gpa).answer ≡ 0
  no_owner e =
      elim (which (is_refusal (query_refusal l s given))) [
        | inl t ↦ rw (owner_refused l (trimmed_sheet remain s) given gpa (rw query_same t))
        | inr f ↦ answer_is f ∙ headers_none ((query_says l s given).0 f).1 (rw (owner_given l s given gpa f) at e)
      ]
