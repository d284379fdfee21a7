-- The owner of an address and the index of a mask's regions, of two accepted sheets whose headers pair off.
use Rattle.rows.{proofs.Kit.{◌≡◌, sym, ◌∙◌, inl, inr, List, some, ℕ, ◌/◌, ◌<◌, not-suc-le-zero, arith, length}, proofs.Bools.which}
use Rattle.igvm_defs.{specs.Refusals.is_refusal, proofs.RefusalLaws.or_else_later}
use Rattle.sheet.specs.Head.{Limits}
use Rattle.sheet_headers.specs.Headers.{sheet_headers}
use Rattle.rules.{specs.Owner.number_of_row, proofs.OwnerOrder.{owner_there, no_owner_there, index_count_same, place_same}}
use Rattle.answers.{specs.Verdict.verdict_refusal, specs.Relocations.query_refusal, specs.Owner.{region_owner_of, index_fault, index_refusal, region_index_of, index_after, start_in, size_in}, proofs.AnswerLaws.accepted_headers, proofs.OwnerLaws.{owners_of, query_says, owner_refused, owner_given, index_says, index_refused, index_given, place_there}}
use Rattle.order.specs.Demand.{Accepted}
use Rattle.rules.specs.Reordered as rules

module _ (l : Limits) (a b : List ℕ) (H : rules.Reordered (sheet_headers a) (sheet_headers b)) (va : Accepted l a) (vb : Accepted l b) (given : ℕ) where
  -- ---- the owner

  query_same : query_refusal l a given ≡ query_refusal l b given
  unfolding query_refusal
  query_same = or_else_later (verdict_refusal l a) _ va ∙ sym (or_else_later (verdict_refusal l b) _ vb)

  pub refusal_same : (gpa : ℕ) → (region_owner_of l a given gpa).refusal ≡ (region_owner_of l b given gpa).refusal
  unfolding region_owner_of
  refusal_same gpa = query_same

  pub owner_partner : (gpa i : ℕ) → (region_owner_of l a given gpa).answer ≡ number_of_row (sheet_headers a) (some i)
      → (region_owner_of l b given gpa).answer ≡ number_of_row (sheet_headers b) (some (H.initializations.to i))
  owner_partner gpa i e =
      elim (which (is_refusal (query_refusal l a given))) [
        | inl t ↦ let z : 0 ≡ number_of_row (sheet_headers a) (some i) = rw (owner_refused l a given gpa t) at e in absurd (omega arith)
        | inr f ↦
            let g = rw query_same at f in
            let (_, n) = (query_says l a given).0 f in
            rw (owner_given l b given gpa g)
            (owner_there (sheet_headers a) (sheet_headers b) H (accepted_headers l a va) given gpa n i (rw (owner_given l a given gpa f) at e))
      ]

  pub no_owner_too : (gpa : ℕ) → (region_owner_of l a given gpa).answer ≡ 0 → (region_owner_of l b given gpa).answer ≡ 0
  no_owner_too gpa e =
      elim (which (is_refusal (query_refusal l a given))) [
        | inl t ↦ rw (owner_refused l b given gpa (rw query_same at t))
        | inr f ↦
            let g = rw query_same at f in
            let (_, n) = (query_says l a given).0 f in
            rw (owner_given l b given gpa g)
            (no_owner_there (sheet_headers a) (sheet_headers b) H (accepted_headers l a va) given gpa n (rw (owner_given l a given gpa f) at e))
      ]

  -- ---- the index

  count_same : owners_of a given ≡ owners_of b given
  count_same = index_count_same (sheet_headers a) (sheet_headers b) H given

  index_refusal_same : (bytes bytes' : ℕ) → bytes / 8 ≡ bytes' / 8 → index_refusal l a given bytes ≡ index_refusal l b given bytes'
  unfolding index_refusal index_fault
  index_refusal_same bytes bytes' e = rw (query_same, count_same, e)

  pub index_same : (bytes bytes' : ℕ) → bytes / 8 ≡ bytes' / 8 → region_index_of l a given bytes ≡ region_index_of l b given bytes'
  unfolding region_index_of
  index_same bytes bytes' e = rw (index_refusal_same bytes bytes' e, count_same)

  pub places_same : (x y : List ℕ) → length x / 8 ≡ length y / 8 → (k : ℕ) → k < (region_index_of l a given (length x)).answer
      → (start_in (index_after l a given x) k ≡ start_in (index_after l b given y) k) × (size_in (index_after l a given x) k ≡ size_in (index_after l b given y) k)
  places_same x y e k h =
      elim (which (is_refusal (index_refusal l a given (length x)))) [
        | inl t ↦ absurd (not-suc-le-zero (rw (index_refused l a given (length x) t) at h))
        | inr f ↦
            let g = rw (index_refusal_same (length x) (length y) e) at f in
            let m : k < owners_of a given = rw (index_given l a given (length x) f) at h in
            let (_, n) = (query_says l a given).0 ((index_says l a given (length x)).0 f).0 in
            let (start, size) = place_same (sheet_headers a) (sheet_headers b) H given (accepted_headers l a va) n k m in
            let (start-a, size-a) = place_there l a given x f k m in
            let (start-b, size-b) = place_there l b given y g k (rw (← count_same) m) in
            (start-a ∙ start ∙ sym start-b, size-a ∙ size ∙ sym size-b)
      ]
