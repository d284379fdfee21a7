-- What a number of a table stands for.
use Rattle.rows.proofs.Kit.{ℕ, ◌<◌, ◌≡◌, ◌≢◌, refl, sym, ap, ◌∙◌, arith, Bool, true, false, cond, eqb, eqb-true, eqb-false, ne_eqb}
use Rattle.std.specs.Prelude.{Option, Some, None}
use Rattle.std.specs.Option.{option_eq}
use Rattle.area_table.specs.contracts.AreaStatePartialEq.TheImpl.{eq-value}
use Rattle.area_table.specs.declared.AreaState.{AreaState}
use Rattle.area_table.specs.declared.AreaState.TheVariants.{Nothing, Allocated, Inserted}
use Rattle.area_table.specs.States.{state_code, state_told}

pub code_small : (s : AreaState) → state_code s < 3
code_small Nothing = omega arith
code_small Allocated = omega arith
code_small Inserted = omega arith

told_by : (a b c : Bool) (n : ℕ) (s : AreaState) → eqb n 0 ≡ a → eqb n 1 ≡ b → eqb n 2 ≡ c
    → cond a (Some Nothing) (cond b (Some Allocated) (cond c (Some Inserted) None)) ≡ Some s → n ≡ state_code s
told_by true b c n s p q r e = let same : Nothing ≡ s = cc in eqb-true n 0 p ∙ ap state_code same
told_by false true c n s p q r e = let same : Allocated ≡ s = cc in eqb-true n 1 q ∙ ap state_code same
told_by false false true n s p q r e = let same : Inserted ≡ s = cc in eqb-true n 2 r ∙ ap state_code same
told_by false false false n s p q r e = cc

-- a state that a number is told to stand for has this number
pub told_code : (n : ℕ) (s : AreaState) → state_told n ≡ Some s → n ≡ state_code s
unfolding state_told
told_code n s = told_by (eqb n 0) (eqb n 1) (eqb n 2) n s refl refl refl

pub code_told : (s : AreaState) → state_told (state_code s) ≡ Some s
unfolding state_told
code_told Nothing = refl
code_told Allocated = refl
code_told Inserted = refl

pub none_told : state_told 3 ≡ None
unfolding state_told
none_told = refl

-- ---- two states are the same where their numbers are

abbrev pub same : AreaState → AreaState → Bool
same = eq-value.it

same_code : (a b : AreaState) → same a b ≡ eqb (state_code a) (state_code b)
same_code Nothing Nothing = refl
same_code Nothing Allocated = refl
same_code Nothing Inserted = refl
same_code Allocated Nothing = refl
same_code Allocated Allocated = refl
same_code Allocated Inserted = refl
same_code Inserted Nothing = refl
same_code Inserted Allocated = refl
same_code Inserted Inserted = refl

no_code : (n : ℕ) (s : AreaState) → n ≢ 0 → n ≢ 1 → n ≢ 2 → n ≢ state_code s
no_code n Nothing a b c = a
no_code n Allocated a b c = b
no_code n Inserted a b c = c

same_by : (a b c : Bool) (n : ℕ) (s : AreaState) → eqb n 0 ≡ a → eqb n 1 ≡ b → eqb n 2 ≡ c
    → option_eq same (cond a (Some Nothing) (cond b (Some Allocated) (cond c (Some Inserted) None))) (Some s) ≡ eqb n (state_code s)
same_by true b c n s p q r = rw (eqb-true n 0 p) (same_code Nothing s)
same_by false true c n s p q r = rw (eqb-true n 1 q) (same_code Allocated s)
same_by false false true n s p q r = rw (eqb-true n 2 r) (same_code Inserted s)
same_by false false false n s p q r = sym (ne_eqb n (state_code s) (no_code n s (eqb-false n 0 p) (eqb-false n 1 q) (eqb-false n 2 r)))

told_same : (n : ℕ) (s : AreaState) → option_eq same (state_told n) (Some s) ≡ eqb n (state_code s)
unfolding state_told
told_same n s = same_by (eqb n 0) (eqb n 1) (eqb n 2) n s refl refl refl

-- what the test of a state that was told says of its number
pub same_told : (found : Option AreaState) (n : ℕ) (s : AreaState) → found ≡ state_told n → (test : Bool) → test ≡ option_eq same found (Some s) → test ≡ eqb n (state_code s)
same_told found n s told test e = e ∙ rw (told, told_same n s)
