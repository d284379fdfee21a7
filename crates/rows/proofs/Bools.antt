-- Facts of tests. `mathlib.Core.Bool` has more: `or_true`, `or-false`, `and-true`, `and-false`, `and-eq-true_iff`.
use mathlib.Core.Bool.{and-eq-true_iff}
use mir.Val.{bool_byte}
use Rattle.rows.proofs.Kit.{◌≡◌, refl, sym, ◌∙◌, Bool, true, false, cond, ◌&&◌, ◌||◌, false≢true, ◌⊎◌, inl, inr, ℕ, ◌≤◌, ◌<◌, ltb, leb, eqb, arith, lt-ltb, ltb-true, le-leb, leb-true, eq-eqb, eqb-true}

-- ---- true and false

pub not_both : {X : Type 0} {b : Bool} → b ≡ false → b ≡ true → X
not_both e f = absurd (false≢true (sym e ∙ f))

pub is_false : (b : Bool) → (b ≡ true → ⊥) → b ≡ false
is_false true f = absurd (f refl)
is_false false f = refl

-- a test passes or fails: for a proof by cases
pub which : (b : Bool) → (b ≡ true) ⊎ (b ≡ false)
which true = inl refl
which false = inr refl

-- two tests that pass together are equal
pub same_test : (b c : Bool) → (b ≡ true → c ≡ true) → (c ≡ true → b ≡ true) → b ≡ c
same_test true c f g = sym (f refl)
same_test false true f g = g refl
same_test false false f g = refl

-- ---- or

pub or_left : (b c : Bool) → b ≡ true → (b || c) ≡ true
or_left b c h = rw h

pub or_right : (b c : Bool) → c ≡ true → (b || c) ≡ true
or_right true c h = refl
or_right false c h = h

pub or_cases : (b c : Bool) → (b || c) ≡ true → (b ≡ true) ⊎ (c ≡ true)
or_cases true c h = inl refl
or_cases false c h = inr h

pub or_false_parts : (b c : Bool) → (b || c) ≡ false → (b ≡ false) × (c ≡ false)
or_false_parts true c h = not_both h refl
or_false_parts false c h = (refl, h)

pub or_both_false : (b c : Bool) → b ≡ false → c ≡ false → (b || c) ≡ false
or_both_false b c h g = rw (h, g)

-- ---- and

pub and_parts : (b c : Bool) → (b && c) ≡ true → (b ≡ true) × (c ≡ true)
and_parts b c = (and-eq-true_iff b c).0

pub and_both : (b c : Bool) → b ≡ true → c ≡ true → (b && c) ≡ true
and_both b c h g = rw (h, g)

-- ---- tests of numbers that pass together

pub ltb_same : (a b c d : ℕ) → (a < b → c < d) → (c < d → a < b) → ltb a b ≡ ltb c d
ltb_same a b c d f g = same_test (ltb a b) (ltb c d) (λ h. lt-ltb c d (f (ltb-true a b h))) (λ h. lt-ltb a b (g (ltb-true c d h)))

pub leb_same : (a b c d : ℕ) → (a ≤ b → c ≤ d) → (c ≤ d → a ≤ b) → leb a b ≡ leb c d
leb_same a b c d f g = same_test (leb a b) (leb c d) (λ h. le-leb c d (f (leb-true a b h))) (λ h. le-leb a b (g (leb-true c d h)))

pub eqb_same : (a b c d : ℕ) → (a ≡ b → c ≡ d) → (c ≡ d → a ≡ b) → eqb a b ≡ eqb c d
eqb_same a b c d f g = same_test (eqb a b) (eqb c d) (λ h. eq-eqb c d (f (eqb-true a b h))) (λ h. eq-eqb a b (g (eqb-true c d h)))

-- ---- cond

-- each case may use what the test said
pub cond_same : {X : Type 0} (t : Bool) (x y u v : X) → (t ≡ true → x ≡ y) → (t ≡ false → u ≡ v) → cond t x u ≡ cond t y v
cond_same true x y u v f g = f refl
cond_same false x y u v f g = g refl

-- a function of either case
pub cond_map : {A B : Type 0} (f : A → B) (t : Bool) (x y : A) → f (cond t x y) ≡ cond t (f x) (f y)
cond_map f true x y = refl
cond_map f false x y = refl

-- a test as a number
pub one_at_most : (b : Bool) → bool_byte b ≤ 1
one_at_most true = omega arith
one_at_most false = omega arith

-- and as what it adds to a count
pub byte_count : (b : Bool) → bool_byte b ≡ cond b 1 0
byte_count true = refl
byte_count false = refl
