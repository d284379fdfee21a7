-- What refuses a query, and what stands where nothing does; and a call's answer by a number.
use lib.Dec.{eqb-suc-zero}
use Rattle.rows.proofs.Kit.{Bool, suc, ◌≡◌, refl, sym, ap, ◌∙◌, true, false, ◌≢◌, List, ℕ, ◌≤◌, ◌<◌, arith, eqb, eqb-false}
use Rattle.std.specs.Prelude.{Result, Ok, Err, MatchResult, ⊤}
use Rattle.std.specs.Result.{IsErrAnd}
use Rattle.igvm_defs.{specs.declared.Refusal.Refusal, specs.declared.Fault.Fault, specs.Refusals.{refusal, no_refusal, fault, no_fault, refuse, is_fault, is_refusal, in_row, or_else, Passes}, proofs.RefusalLaws.{or_else_first, or_else_later, row_refusal_lem}, proofs.AnswerLaws.thrown}
use Rattle.sheet.{specs.Head.{limits, head_of, start_fault}, specs.Read.Readable, proofs.Readable.readable_bounds}
use Rattle.sheet_headers.{specs.Headers.sheet_headers, proofs.HeaderLaws.sheet_counts}
use Rattle.answers.{specs.declared.Answered.Answered, specs.Verdict.{verdict_refusal, count_unless}, specs.Relocations.{mask_fault, query_refusal}, proofs.AnswerLaws.{accepted_readable}, proofs.OwnerLaws.query_says}
use Rattle.validation.proofs.VerdictLaws.{verdict_start}
use Rattle.by_start.{specs.declared.KeptRegions.KeptRegions}
use Rattle.keep.specs.Kept.{Kept}
use Rattle.query.specs.KeptFor.{KeptFor, KeptWithPlaces}

-- a call that has this refusal is refused by r
abbrev pub Stops : Refusal → Refusal → Type 0
Stops r refused = (r ≡ refused) × (is_refusal refused ≡ true)

pub not_refused : (r : Refusal) → r ≡ no_refusal → is_refusal r ≡ false
unfolding is_refusal
not_refused r e = rw e

module _ (s : List ℕ) (given : ℕ) where
  verdict_stops : (r : Refusal) → r ≡ verdict_refusal limits s → is_refusal (verdict_refusal limits s) ≡ true → Stops r (query_refusal limits s given)
  unfolding query_refusal
  verdict_stops r e t = let q = or_else_first (verdict_refusal limits s) (in_row 0 (mask_fault given)) t in (e ∙ sym q, rw q t)

  pub start_stops : (r : Refusal) (f : Fault) → r ≡ in_row 0 f → f ≡ start_fault limits s → is_fault f ≡ true → Stops r (query_refusal limits s given)
  start_stops r f e g t =
      let t' : is_fault (start_fault limits s) ≡ true = rw g at t in
      let v = verdict_start limits s t' in
      verdict_stops r (e ∙ ap (in_row 0) g ∙ sym v) (rw (v, row_refusal_lem) t')

  -- 35, or nothing
  pub mask_passes : {P : ⊤ → Type 0} (v : verdict_refusal limits s ≡ no_refusal) (r : Result ⊤ Refusal)
      → MatchResult r (λ _. eqb given 0 ≡ false) (λ e. (eqb given 0 ≡ true) × (e ≡ refusal 35 0 0))
      → ((x : ⊤) → given ≢ 0 → P x) → Passes r (query_refusal limits s given) P
  unfolding query_refusal mask_fault is_refusal in_row is_fault
  mask_passes v (Ok x) m go = (rw (or_else_later (verdict_refusal limits s) _ (not_refused _ v), m), go x (eqb-false given 0 m))
  mask_passes v (Err e) (t, is) go =
      let q = or_else_later (verdict_refusal limits s) (in_row 0 (mask_fault given)) (not_refused _ v) in
      let m : in_row 0 (mask_fault given) ≡ refusal 35 0 0 = rw t refl in
      (is ∙ sym m ∙ sym q, rw (q, m) refl)

  -- what is kept
  pub kept_for : {N M : ℕ} (kept : KeptRegions N M) (contexts : List ℕ) → verdict_refusal limits s ≡ no_refusal → given ≢ 0
      → Kept s kept.regions kept.rows kept.order.next contexts → (head_of s).initializations ≤ N → KeptFor s given kept
  unfolding sheet_headers
  kept_for kept contexts v n k h =
      let b = readable_bounds s (accepted_readable limits s (not_refused _ v)) in
      let few = k.regions.count in
      record {
        accepted = not_refused _ v;
        nonzero = n;
        regions = record { regions = k.regions; rows = rw (sheet_counts s).platforms k.rows; order = k.order };
        few = omega arith;
        most = omega (arith, b.initializations);
      }

  -- the same, where the order has a place for each row
  pub kept_with_places : {N M : ℕ} (kept : KeptRegions N M) (contexts : List ℕ) → verdict_refusal limits s ≡ no_refusal → given ≢ 0
      → Kept s kept.regions kept.rows kept.order.next contexts → (head_of s).initializations ≤ N → (head_of s).initializations < M → KeptWithPlaces s given kept
  unfolding sheet_headers
  kept_with_places kept contexts v n k h p = let few = k.regions.count in record { kept_for = kept_for kept contexts v n k h; places = omega arith }

  -- a query that is not refused is of an accepted sheet
  pub query_readable : query_refusal limits s given ≡ no_refusal → Readable limits s
  query_readable q = let (v, _) = (query_says limits s given).0 (not_refused _ q) in accepted_readable limits s v

-- ---- a refusal of the call's own, of the sheet as a whole, after another
module _ (q : Refusal) where
  pub else_stops : (own r : Refusal) → Stops r q → Stops r (or_else q own)
  else_stops own r (e, t) = let f = or_else_first q own t in (e ∙ sym f, rw f t)

  module _ (n : ℕ) (b : Bool) (none : q ≡ no_refusal) where
    abbrev own : Refusal
    own = in_row 0 (refuse b (fault (suc n) 0) no_fault)

    later : or_else q own ≡ own
    later = or_else_later q own (not_refused q none)

    pub own_stops : b ≡ true → (r : Refusal) → r ≡ refusal (suc n) 0 0 → Stops r (or_else q own)
    unfolding in_row is_fault is_refusal
    own_stops t r e = let o : own ≡ refusal (suc n) 0 0 = rw (t, eqb-suc-zero n) refl in (e ∙ sym o ∙ sym later, rw (later, o, eqb-suc-zero n) refl)

    pub own_passes : b ≡ false → or_else q own ≡ no_refusal
    unfolding in_row is_fault
    own_passes f = later ∙ rw f refl

-- the exit of a `?` over a verdict's refusal
pub verdict_thrown : {A : Type 0} (s : List ℕ) (given : ℕ) (r : Result A Refusal) (P : A → Type 0) (e : Refusal) → IsErrAnd r (λ y. y ≡ e)
    → Stops e (verdict_refusal limits s) → Passes r (query_refusal limits s given) P
verdict_thrown s given r P e is (a, t) = thrown r _ _ e is (verdict_stops s given e a t)

-- a call's answer by a number: 0 where it is refused
pub answered_is : (r : Result ℕ Refusal) (q : Refusal) (n : ℕ) (a : Answered) → Passes r q (λ m. m ≡ n)
    → MatchResult r (λ n. a ≡ record { refusal = no_refusal; answer = n }) (λ e. a ≡ record { refusal = e; answer = 0 })
    → a ≡ record { refusal = q; answer = count_unless q n }
unfolding is_refusal
answered_is (Ok m) q n a (e, is) h = rw (e, ← is) h
answered_is (Err e) q n a (is, t) h = rw t (rw is at h)
