-- When a chain of tests finds no fault, and a list of rows no refusal.
use Rattle.rows.{proofs.Kit.{◌≡◌, refl, sym, ◌∙◌, Bool, true, false, cond, ◌||◌, false≢true, ◌↔◌, Option, none, some, ℕ, suc, ◌<◌}, proofs.Bools.or_false_parts, proofs.BelowLaws.none_any}
use Rattle.igvm_defs.{specs.declared.Fault.Fault, specs.declared.Refusal.Refusal, specs.Refusals.{fault, refuse, or_fault, is_fault, is_refusal, or_else, first_fault}, proofs.RefusalLaws.{refuse_fault, else_refusal, faults_any}}
use Rattle.rules.specs.Initializations.{refuse_bit}

neither : (b c d : Bool) → b ≡ (c || d) → (b ≡ false) ↔ ((c ≡ false) × (d ≡ false))
neither b c d e = (λ h. or_false_parts c d (sym e ∙ h), λ h. rw (e, h.0, h.1))

pub or_fault_lem : (f later : Fault) → is_fault (or_fault f later) ≡ (is_fault f || is_fault later)
or_fault_lem f later = go (is_fault f) refl
  where
    go : (b : Bool) → is_fault f ≡ b → is_fault (cond b f later) ≡ (b || is_fault later)
    go true e = e
    go false e = refl

-- ---- the test and the later tests find none

pub refuse_none : (b : Bool) (n d : ℕ) (later : Fault) → (is_fault (refuse b (fault (suc n) d) later) ≡ false) ↔ ((b ≡ false) × (is_fault later ≡ false))
refuse_none b n d later = neither (is_fault (refuse b (fault (suc n) d) later)) b (is_fault later) (refuse_fault b n d later)

pub or_none : (f later : Fault) → (is_fault (or_fault f later) ≡ false) ↔ ((is_fault f ≡ false) × (is_fault later ≡ false))
or_none f later = neither (is_fault (or_fault f later)) (is_fault f) (is_fault later) (or_fault_lem f later)

pub bit_none : (o : Option ℕ) (later : Fault) → (is_fault (refuse_bit o later) ≡ false) ↔ ((o ≡ none) × (is_fault later ≡ false))
unfolding is_fault
bit_none none later = (λ h. (refl, h), λ h. h.1)
bit_none (some bit) later = (λ h. absurd (false≢true (sym h)), λ h. absurd (false≢true (cc)))

-- ---- the rows and what comes later have none

pub else_none : (r later : Refusal) → (is_refusal (or_else r later) ≡ false) ↔ ((is_refusal r ≡ false) × (is_refusal later ≡ false))
else_none r later = neither (is_refusal (or_else r later)) (is_refusal r) (is_refusal later) (else_refusal r later)

pub rows_none : (first n : ℕ) (f : ℕ → Fault) → (is_refusal (first_fault first n f) ≡ false) ↔ ((i : ℕ) → i < n → is_fault (f i) ≡ false)
rows_none first n f = (
  λ h. (none_any n (λ i. is_fault (f i))).0 (sym (faults_any first n f) ∙ h),
  λ h. faults_any first n f ∙ (none_any n (λ i. is_fault (f i))).1 h,
)
