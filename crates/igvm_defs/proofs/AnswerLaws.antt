-- Laws of answers by Result: a check of one test, the exit of a `?`, and a check whose fault is said of a row, `check.map_err(|f| f.in_row(row))`.
-- What the closure says of the refusal e is found by `λ f q. cc`.
use Rattle.rows.proofs.Kit.{◌≡◌, refl, sym, subst, ◌∙◌, Bool, true, false, not, ap, ℕ, suc}
use Rattle.std.specs.Prelude.{Result, Ok, Err, MatchResult, ⊤}
use Rattle.std.specs.Result.{IsErrAnd, is_ok}
use lib.Dec.{eqb-suc-zero}
use Rattle.igvm_defs.specs.declared.Fault.{Fault}
use Rattle.igvm_defs.specs.declared.Refusal.{Refusal}
use Rattle.igvm_defs.specs.Refusals.{fault, no_fault, refuse, in_row, is_fault, Told, Passes}
use Rattle.igvm_defs.proofs.RefusalLaws.{row_refusal_lem, no_fault_lem, no_fault_row}

-- the exit of a `?` returns the error that was met
pub thrown : {T E : Type 0} (r : Result T E) (P : T → Type 0) (Q : E → Type 0) (e : E) → IsErrAnd r (λ y. y ≡ e) → Q e → MatchResult r P Q
thrown (Ok x) P Q e is q = absurd is
thrown (Err y) P Q e is q = subst Q (sym is) q

-- a check of one test
pub told_if : (r : Result ⊤ Fault) (b : Bool) (n d : ℕ) → MatchResult r (λ _. b ≡ false) (λ e. (b ≡ true) × (e ≡ fault (suc n) d))
    → Told r (refuse b (fault (suc n) d) no_fault)
unfolding is_fault
told_if (Ok x) b n d h = rw h refl
told_if (Err e) b n d (h, is) = rw (h, is) (refl, ap not (eqb-suc-zero n))

-- ---- a check whose fault is said of a row
module _ (check : Result ⊤ Fault) (rule : Fault) (told : Told check rule) where
  -- it went on
  pub row_passed : true ≡ is_ok check → rule ≡ no_fault
  row_passed = go check told
    where
      go : (check : Result ⊤ Fault) → Told check rule → true ≡ is_ok check → rule ≡ no_fault
      go (Ok x) t e = t
      go (Err f) t e = absurd (let no : ⊥ = cc in no)

  -- it stopped at the refusal e
  pub row_stopped : {P : ⊤ → Type 0} {post : Fault → Type 0} (row : ℕ) (e : Refusal) → MatchResult check P post → ((x : ⊤) → P x → ⊥)
      → ((f : Fault) → post f → e ≡ in_row row f) → (e ≡ in_row row rule) × (is_fault rule ≡ true)
  row_stopped {P} {post} row e m never said = go check told m
    where
      go : (check : Result ⊤ Fault) → Told check rule → MatchResult check P post → (e ≡ in_row row rule) × (is_fault rule ≡ true)
      go (Ok x) t m = absurd (never x m)
      go (Err f) (is, t) m = (said f m ∙ ap (in_row row) is, t)

  -- what it answers is what a pass answers that is this check alone
  pub row_answers : {post : Fault → Refusal → Type 0} (row : ℕ) (r : Result ⊤ Refusal) → MatchResult check (λ x. r ≡ Ok x) (λ f. IsErrAnd r (post f))
      → ((f : Fault) (e : Refusal) → post f e → e ≡ in_row row f) → Passes r (in_row row rule) (λ _. ⊤)
  row_answers {post} row r m said = go check r told m
    where
      go : (check : Result ⊤ Fault) (r : Result ⊤ Refusal) → Told check rule → MatchResult check (λ x. r ≡ Ok x) (λ f. IsErrAnd r (post f)) → Passes r (in_row row rule) (λ _. ⊤)
      go (Ok x) (Ok y) t m = (rw t (no_fault_row row no_fault no_fault_lem), tt)
      go (Ok x) (Err e) t m = absurd (let never : ⊥ = cc in never)
      go (Err f) (Ok y) t m = absurd m
      go (Err f) (Err e) (is, t) m = (said f e m ∙ ap (in_row row) is, row_refusal_lem row rule ∙ t)
