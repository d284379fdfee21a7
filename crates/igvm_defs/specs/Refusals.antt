-- A refusal is a number, the row that it names (from 1; 0 for the sheet as a whole) and a detail. All three are 0 where nothing is refused.
-- A fault is what is wrong with one row, or with the sheet as a whole: the refusal's number and detail.
use Rattle.std.specs.Prelude.{ℕ, ◌+◌, Bool, true, cond, not, ◌≡◌, eqb, Result, MatchResult, ⊤}
use Rattle.std.proofs.Math.Option.{Option, none, some}
use Rattle.rows.specs.Below.{first_below}
use Rattle.igvm_defs.specs.declared.Refusal.{Refusal}
use Rattle.igvm_defs.specs.declared.Fault.{Fault}

abbrev pub refusal : ℕ → ℕ → ℕ → Refusal
refusal number row detail = record { number = number; row = row; detail = detail }

abbrev pub no_refusal : Refusal
no_refusal = refusal 0 0 0

abbrev pub fault : ℕ → ℕ → Fault
fault number detail = record { number = number; detail = detail }

abbrev pub no_fault : Fault
no_fault = fault 0 0

-- the fault where the test holds, else what the later tests say
abbrev pub refuse : Bool → Fault → Fault → Fault
refuse test f later = cond test f later

unfoldable pub is_fault : Fault → Bool
is_fault f = not (eqb f.number 0)

-- the fault where there is one, else what the later tests say
abbrev pub or_fault : Fault → Fault → Fault
or_fault f later = cond (is_fault f) f later

unfoldable pub is_refusal : Refusal → Bool
is_refusal r = not (eqb r.number 0)

-- the refusal that a fault of this row is
unfoldable pub in_row : ℕ → Fault → Refusal
in_row row f = cond (is_fault f) (refusal f.number row f.detail) no_refusal

-- the refusal where there is one, else what comes later
unfoldable pub or_else : Refusal → Refusal → Refusal
or_else r later = cond (is_refusal r) r later

-- the refusal of the first of n rows that has a fault; `first` rows stand before them
abbrev pub refusal_at : ℕ → (ℕ → Fault) → Option ℕ → Refusal
refusal_at first f none = no_refusal
refusal_at first f (some i) = refusal (f i).number (first + i + 1) (f i).detail

unfoldable pub first_fault : ℕ → ℕ → (ℕ → Fault) → Refusal
first_fault first n f = refusal_at first f (first_below n (λ i. is_fault (f i)))

-- a check answers nothing where its rule finds no fault, and else the rule's fault
abbrev pub Told : Result ⊤ Fault → Fault → Type 0
Told answer f = MatchResult answer (λ _. f ≡ no_fault) (λ e. (e ≡ f) × (is_fault f ≡ true))

-- a pass answers the refusal, or where there is none, what P holds of
abbrev pub Passes : {A : Type 0} → Result A Refusal → Refusal → (A → Type 0) → Type 0
Passes answer r P = MatchResult answer (λ a. (r ≡ no_refusal) × P a) (λ e. (e ≡ r) × (is_refusal r ≡ true))
