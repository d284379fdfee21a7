-- Laws of the definitions over the indexes below n. A law `..-more` is for a loop that goes from n to n + 1.
use native.Mathlib.Nat.{mul-suc}
use Rattle.rows.specs.Below.{any_below, or_later, first_below, last_below, sum_below, count_below, nth_below}
use Rattle.rows.proofs.{Kit.{◌≡◌, refl, ap₂, ◌∙◌, Bool, true, false, cond, ◌&&◌, ◌||◌, false≢true, and-false, ◌≢◌, ◌↔◌, ◌⊎◌, inl, inr, Option, none, some, ℕ, zero, suc, ◌+◌, ◌*◌, ◌≤◌, ◌<◌, zero-le, not-suc-le-zero, eq-or-lt_of_le, le_of_suc-le-suc, add-suc, add-zero, arith, add-one, eqb, eq-eqb, eqb-true, eqb-false, ne_eqb, get_or, replicate}, Bools.{which, not_both, is_false, or_left, or_right, or_cases, and_parts, cond_map}}

-- below suc n: n itself, or below n
pub top : {i n : ℕ} → i < suc n → (i ≡ n) ⊎ (i < n)
top h = eq-or-lt_of_le (le_of_suc-le-suc h)

-- ---- any_below

pub any_below_lem : (n : ℕ) (p : ℕ → Bool) (i : ℕ) → i < n → p i ≡ true → any_below n p ≡ true
unfolding any_below
any_below_lem zero p i l h = absurd (not-suc-le-zero l)
any_below_lem (suc n) p i l h = elim (top l) [ inl e ↦ or_right (any_below n p) (p n) (rw e at h) | inr k ↦ or_left _ _ (any_below_lem n p i k h) ]

pub some_below : (n : ℕ) (p : ℕ → Bool) → any_below n p ≡ true → (i : ℕ) × (i < n) × (p i ≡ true)
unfolding any_below
some_below zero p h = absurd (false≢true h)
some_below (suc n) p h =
    elim (or_cases (any_below n p) (p n) h) [ inl e ↦ let (i, l, g) = some_below n p e in (i, omega arith, g) | inr e ↦ (n, omega arith, e) ]

pub none_any : (n : ℕ) (p : ℕ → Bool) → (any_below n p ≡ false) ↔ ((i : ℕ) → i < n → p i ≡ false)
none_any n p = (
  λ h i l. is_false (p i) (λ g. not_both h (any_below_lem n p i l g)),
  λ h. is_false (any_below n p) (λ g. let (i, l, e) = some_below n p g in not_both (h i l) e),
)

pub any_more : (n : ℕ) (p : ℕ → Bool) → any_below (n + 1) p ≡ (any_below n p || p n)
unfolding any_below
any_more n p = rw add-one

pub any_same_tests : (n : ℕ) (p q : ℕ → Bool) → ((i : ℕ) → i < n → p i ≡ q i) → any_below n p ≡ any_below n q
unfolding any_below
any_same_tests zero p q h = refl
any_same_tests (suc n) p q h = rw (any_same_tests n p q (λ i l. h i (omega arith)), h n (omega arith))

-- ---- first_below

later_none : (o : Option ℕ) (b : Bool) (n : ℕ) → or_later o (cond b (some n) none) ≡ none → (o ≡ none) × (b ≡ false)
later_none none true n h = absurd (false≢true (cc))
later_none none false n h = (refl, refl)
later_none (some i) b n h = absurd (false≢true (cc))

none_first : (n : ℕ) (p : ℕ → Bool) → first_below n p ≡ none → (i : ℕ) → i < n → p i ≡ false
unfolding first_below
none_first zero p h i l = absurd (not-suc-le-zero l)
none_first (suc n) p h i l =
    let (f, c) = later_none (first_below n p) (p n) n h in
    elim (top l) [ inl e ↦ rw e c | inr k ↦ none_first n p f i k ]

first_of_none : (n : ℕ) (p : ℕ → Bool) → ((i : ℕ) → i < n → p i ≡ false) → first_below n p ≡ none
unfolding first_below
first_of_none zero p h = refl
first_of_none (suc n) p h = rw (first_of_none n p (λ i l. h i (omega arith)), h n (omega arith))

pub first_none : (n : ℕ) (p : ℕ → Bool) → (first_below n p ≡ none) ↔ ((i : ℕ) → i < n → p i ≡ false)
first_none n p = (none_first n p, first_of_none n p)

pub first_any : (n : ℕ) (p : ℕ → Bool) → (first_below n p ≡ none) ↔ (any_below n p ≡ false)
first_any n p = (λ h. (none_any n p).1 ((first_none n p).0 h), λ h. (first_none n p).1 ((none_any n p).0 h))

-- index i passes, and none before it
pub first_at : (n : ℕ) (p : ℕ → Bool) (i : ℕ) → i < n → ((j : ℕ) → j < i → p j ≡ false) → p i ≡ true → first_below n p ≡ some i
unfolding first_below
first_at zero p i l h g = absurd (not-suc-le-zero l)
first_at (suc n) p i l h g = elim (top l) [ inl e ↦ rw (← e, first_of_none i p h, g) | inr k ↦ rw (first_at n p i k h g) ]

pub first_says : (n : ℕ) (p : ℕ → Bool) (i : ℕ) → first_below n p ≡ some i → (i < n) × (p i ≡ true) × ((j : ℕ) → j < i → p j ≡ false)
unfolding first_below
first_says zero p i h = absurd (false≢true (cc))
first_says (suc n) p i h = go (first_says n p i) (first_below n p) refl (p n) refl h
  where
    go : (first_below n p ≡ some i → (i < n) × (p i ≡ true) × ((j : ℕ) → j < i → p j ≡ false)) → (o : Option ℕ) → first_below n p ≡ o
        → (b : Bool) → p n ≡ b → or_later o (cond b (some n) none) ≡ some i
        → (i < suc n) × (p i ≡ true) × ((j : ℕ) → j < i → p j ≡ false)
    go rest (some k) e b f g = let (l, t, before) = rest (e ∙ g) in (omega arith, t, before)
    go rest none e true f g = let q : n ≡ i = cc in (omega arith, rw q at f, λ j l. none_first n p e j (omega arith))
    go rest none e false f g = absurd (false≢true (cc))

pub first_same_tests : (n : ℕ) (p q : ℕ → Bool) → ((i : ℕ) → i < n → p i ≡ q i) → first_below n p ≡ first_below n q
unfolding first_below
first_same_tests zero p q h = refl
first_same_tests (suc n) p q h = rw (h n (omega arith), first_same_tests n p q (λ i l. h i (omega arith)))

-- ---- last_below

-- index i passes, and none after it
abbrev pub LastAt : ℕ → (ℕ → Bool) → ℕ → Type 0
LastAt n p i = (i < n) × (p i ≡ true) × ((j : ℕ) → i < j → j < n → p j ≡ false)

pub last_says : (n : ℕ) (p : ℕ → Bool) (i : ℕ) → last_below n p ≡ some i → LastAt n p i
unfolding last_below
last_says zero p i h = absurd (false≢true (cc))
last_says (suc n) p i h =
    elim (which (p n)) [
      | inl e ↦ let q : n ≡ i = cc (rw e at h) in (omega arith, rw q at e, λ j l k. absurd (omega arith))
      | inr e ↦
          let (l, g, after) = last_says n p i (rw e at h) in
          (omega arith, g, λ j k m. elim (top m) [ inl q ↦ rw q e | inr r ↦ after j k r ])
    ]

pub says_last : (n : ℕ) (p : ℕ → Bool) (i : ℕ) → LastAt n p i → last_below n p ≡ some i
unfolding last_below
says_last zero p i h = absurd (not-suc-le-zero h.0)
says_last (suc n) p i h =
    elim (top h.0) [
      | inl e ↦ rw (← e, h.1)
      | inr l ↦ rw (h.2 n l (omega arith)) (says_last n p i (l, h.1, λ j k m. h.2 j k (omega arith)))
    ]

-- of any function of the index: a loop that keeps the value found last
pub last_more : {A : Type 0} (f : Option ℕ → A) (n : ℕ) (p : ℕ → Bool) → f (last_below (n + 1) p) ≡ cond (p n) (f (some n)) (f (last_below n p))
unfolding last_below
last_more f n p = rw add-one (cond_map f (p n) (some n) (last_below n p))

pub last_same_tests : (n : ℕ) (p q : ℕ → Bool) → ((i : ℕ) → i < n → p i ≡ q i) → last_below n p ≡ last_below n q
unfolding last_below
last_same_tests zero p q h = refl
last_same_tests (suc n) p q h = rw (last_same_tests n p q (λ i l. h i (omega arith)), h n (omega arith))

-- ---- sum_below

pub sum_more : (n : ℕ) (f : ℕ → ℕ) → sum_below (n + 1) f ≡ sum_below n f + f n
unfolding sum_below
sum_more n f = rw add-one

pub sum_mono : (n m : ℕ) (f : ℕ → ℕ) → n ≤ m → sum_below n f ≤ sum_below m f
unfolding sum_below
sum_mono n zero f l = let e : n ≡ 0 = omega arith in rw e (omega arith)
sum_mono n (suc m) f l =
    elim (eq-or-lt_of_le l) [ inl e ↦ rw e (omega arith) | inr k ↦ let h = sum_mono n m f (le_of_suc-le-suc k) in omega arith ]

-- what stands before index i, and at i, is in the sum
pub sum_part : (n : ℕ) (f : ℕ → ℕ) (i : ℕ) → i < n → sum_below i f + f i ≤ sum_below n f
unfolding sum_below
sum_part n f i l = sum_mono (suc i) n f l

pub sum_cong : (n : ℕ) (f g : ℕ → ℕ) → ((i : ℕ) → i < n → f i ≡ g i) → sum_below n f ≡ sum_below n g
unfolding sum_below
sum_cong zero f g h = refl
sum_cong (suc n) f g h = ap₂ (λ (a b : ℕ). a + b) (sum_cong n f g (λ i l. h i (omega arith))) (h n (omega arith))

pub sum_split : (n m : ℕ) (f : ℕ → ℕ) → sum_below (n + m) f ≡ sum_below n f + sum_below m (λ j. f (n + j))
unfolding sum_below
sum_split n zero f = rw (add-zero n) (omega arith)
sum_split n (suc m) f = let e = sum_split n m f in rw add-suc (omega arith)

pub sum_bound : (n : ℕ) (f : ℕ → ℕ) (b : ℕ) → ((i : ℕ) → i < n → f i ≤ b) → sum_below n f ≤ b * n
unfolding sum_below
sum_bound zero f b h = zero-le
sum_bound (suc n) f b h = let e = sum_bound n f b (λ i l. h i (omega arith)) in let t = h n (omega arith) in rw mul-suc (omega arith)

-- a number taken out of the sum
sum_out : (m k : ℕ) (g : ℕ → ℕ) → k < m → sum_below m g ≡ g k + sum_below m (λ j. cond (eqb j k) 0 (g j))
unfolding sum_below
sum_out zero k g l = absurd (not-suc-le-zero l)
sum_out (suc m) k g l =
    elim (top l) [
      | inl e ↦
          let low = sum_cong m g (λ j. cond (eqb j k) 0 (g j)) (λ j h. rw (ne_eqb j k (omega arith))) in
          rw (eq-eqb m k (omega arith), ← low, e) (omega arith)
      | inr h ↦ let r = sum_out m k g h in rw (ne_eqb m k (omega arith)) (omega arith)
    ]

-- along a one-to-one map that makes no number smaller the sum is no smaller
pub sum_le : (n m : ℕ) (f g : ℕ → ℕ) (to : ℕ → ℕ) → ((i : ℕ) → i < n → to i < m) → ((i j : ℕ) → i < n → j < n → to i ≡ to j → i ≡ j)
    → ((i : ℕ) → i < n → f i ≤ g (to i)) → sum_below n f ≤ sum_below m g
unfolding sum_below
sum_le zero m f g to below one_to_one le = zero-le
sum_le (suc n) m f g to below one_to_one le =
    let off : (i : ℕ) → i < n → to i ≢ to n = λ i l e. let q = one_to_one i n (omega arith) (omega arith) e in omega arith in
    let rest = sum_le n m f (λ j. cond (eqb j (to n)) 0 (g j)) to (λ i l. below i (omega arith)) (λ i j l h e. one_to_one i j (omega arith) (omega arith) e)
    (λ i l. rw (ne_eqb (to i) (to n) (off i l)) (le i (omega arith))) in
    omega (arith, sum_out m (to n) g (below n (omega arith)), le n (omega arith))

-- ---- count_below

pub count_more : (n : ℕ) (p : ℕ → Bool) → count_below (n + 1) p ≡ count_below n p + cond (p n) 1 0
count_more n p = sum_more n (λ i. cond (p i) 1 0)

-- an index that passes has a number of its own
pub count_lt : (i n : ℕ) (p : ℕ → Bool) → i < n → p i ≡ true → count_below i p < count_below n p
count_lt i n p l h = let e : cond {A = ℕ} (p i) 1 0 ≡ 1 = rw h in let m = sum_part n (λ j. cond (p j) 1 0) i l in omega arith

pub count_none : (n : ℕ) (p : ℕ → Bool) → ((i : ℕ) → i < n → p i ≡ false) → count_below n p ≡ 0
unfolding sum_below
count_none zero p h = refl
count_none (suc n) p h = rw (count_none n p (λ i l. h i (omega arith)), h n (omega arith))

-- a count is 0 exactly when none passes
pub count_zero : (n : ℕ) (p : ℕ → Bool) → (count_below n p ≡ 0) ↔ ((i : ℕ) → i < n → p i ≡ false)
count_zero n p = (λ e i h. is_false (p i) (λ t. let c = count_lt i n p h t in omega arith), count_none n p)

pub count_all : (n : ℕ) (p : ℕ → Bool) → ((i : ℕ) → i < n → p i ≡ true) → count_below n p ≡ n
unfolding sum_below
count_all zero p h = refl
count_all (suc n) p h = rw (count_all n p (λ i l. h i (omega arith)), h n (omega arith)) (omega arith)

pub count_le : (n : ℕ) (p : ℕ → Bool) → count_below n p ≤ n
count_le n p = omega (arith, sum_bound n (λ i. cond (p i) 1 0) 1 (λ i l. elim (p i) as (λ b. cond {A = ℕ} b 1 0 ≤ 1) [ true ↦ omega arith | false ↦ omega arith ]))

pub count_same_tests : (n : ℕ) (p q : ℕ → Bool) → ((i : ℕ) → i < n → p i ≡ q i) → count_below n p ≡ count_below n q
count_same_tests n p q h = sum_cong n (λ i. cond (p i) 1 0) (λ i. cond (q i) 1 0) (λ i l. rw (h i l))

-- ---- nth_below

pub nth_number : (n : ℕ) (p : ℕ → Bool) (i : ℕ) → i < n → p i ≡ true → nth_below n p (count_below i p) ≡ some i
unfolding nth_below
nth_number zero p i l h = absurd (not-suc-le-zero l)
nth_number (suc n) p i l h =
    elim (top l) [
      | inl e ↦ rw (← e, h, eq-eqb (count_below i p) (count_below i p) refl)
      | inr k ↦
          let d = count_lt i n p k h in
          rw (ne_eqb (count_below n p) (count_below i p) (omega arith), and-false (p n)) (nth_number n p i k h)
    ]

pub nth_says : (n : ℕ) (p : ℕ → Bool) (k i : ℕ) → nth_below n p k ≡ some i → (i < n) × (p i ≡ true) × (count_below i p ≡ k)
unfolding nth_below
nth_says zero p k i h = absurd (false≢true (cc))
nth_says (suc n) p k i h =
    elim (which (p n && eqb (count_below n p) k)) [
      | inl e ↦
          let q : n ≡ i = cc (rw e at h) in
          let (g, c) = and_parts (p n) (eqb (count_below n p) k) e in
          (omega arith, rw q at g, eqb-true _ _ (rw q at c))
      | inr e ↦ let (l, g, c) = nth_says n p k i (rw e at h) in (omega arith, g, c)
    ]

-- where no index is the one looked for, there are not so many
pub nth_none : (n : ℕ) (p : ℕ → Bool) (k : ℕ) → nth_below n p k ≡ none → count_below n p ≤ k
unfolding nth_below sum_below
nth_none zero p k h = omega arith
nth_none (suc n) p k h =
    elim (which (p n)) [
      | inl e ↦
          elim (which (eqb (count_below n p) k)) [
            | inl q ↦ absurd (false≢true (cc (rw (e, q) at h)))
            | inr q ↦ let l = nth_none n p k (rw (e, q) at h) in let d = eqb-false (count_below n p) k q in rw e (omega arith)
          ]
      | inr e ↦ let l = nth_none n p k (rw e at h) in rw e (omega arith)
    ]

-- where there are so many, one is
pub nth_some : (n : ℕ) (p : ℕ → Bool) (k : ℕ) → k < count_below n p → (i : ℕ) × (nth_below n p k ≡ some i)
nth_some n p k l = go (nth_below n p k) refl
  where
    go : (o : Option ℕ) → nth_below n p k ≡ o → (i : ℕ) × (nth_below n p k ≡ some i)
    go none e = let m = nth_none n p k e in absurd (omega arith)
    go (some i) e = (i, e)

pub nth_few : (n : ℕ) (p : ℕ → Bool) (k : ℕ) → count_below n p ≤ k → nth_below n p k ≡ none
nth_few n p k l = go (nth_below n p k) refl
  where
    go : (o : Option ℕ) → nth_below n p k ≡ o → nth_below n p k ≡ none
    go none e = e
    go (some i) e = let (b, g, c) = nth_says n p k i e in let d = count_lt i n p b g in absurd (omega arith)

pub nth_same_tests : (n : ℕ) (p q : ℕ → Bool) (k : ℕ) → ((i : ℕ) → i < n → p i ≡ q i) → nth_below n p k ≡ nth_below n q k
unfolding nth_below
nth_same_tests zero p q k h = refl
nth_same_tests (suc n) p q k h =
    rw (
      h n (omega arith),
      count_same_tests n p q (λ i l. h i (omega arith)),
      nth_same_tests n p q k (λ i l. h i (omega arith)),
    )

pub nth_more : {A : Type 0} (f : Option ℕ → A) (n : ℕ) (p : ℕ → Bool) (k : ℕ)
    → f (nth_below (n + 1) p k) ≡ cond (p n && eqb (count_below n p) k) (f (some n)) (f (nth_below n p k))
unfolding nth_below
nth_more f n p k = rw add-one (cond_map f (p n && eqb (count_below n p) k) (some n) (nth_below n p k))

-- ---- a list of zeroes

pub zeros : (n i : ℕ) → get_or {A = ℕ} (replicate n 0) i 0 ≡ 0
zeros zero i = refl
zeros (suc n) zero = refl
zeros (suc n) (suc i) = zeros n i
