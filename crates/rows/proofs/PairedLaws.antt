-- What tests and sums say of two lists that pair off, or of a list whose rows all stand in another.
use native.Mathlib.Nat.{lt_of_not-le}
use Rattle.rows.specs.{Below.{last_below, sum_below, count_below, nth_below}, Rows.{Rows, any, row_at, last, before, count_of, nth, Apart, Once}, Paired.{Paired, Into, Free}}
use Rattle.rows.proofs.{Kit.{◌≡◌, refl, sym, ap, ◌∙◌, Bool, true, false, cond, false≢true, inl, inr, Option, none, some, ℕ, ◌≤◌, ◌<◌, eq-or-lt_of_le, le_antisymm, le_of_eq, dec_lt, arith}, Bools.{not_both, is_false}, BelowLaws.{any_below_lem, some_below, LastAt, last_says, says_last, sum_le, count_none, count_all, nth_number, nth_says}}

-- ---- a row at an index

pub same_option : {A : Type 0} (o q : Option A) → ((x : A) → o ≡ some x → q ≡ some x) → ((x : A) → q ≡ some x → o ≡ some x) → o ≡ q
same_option (some x) q f g = sym (f x refl)
same_option none (some y) f g = g y refl
same_option none none f g = refl

pub row_at_lem : {H : Type 0} (xs : Rows H) (o : Option ℕ) (x : H) → row_at xs o ≡ some x → (i : ℕ) × (o ≡ some i) × (xs.row i ≡ x)
row_at_lem xs none x e = absurd (false≢true (cc))
row_at_lem xs (some i) x e = (i, refl, cc)

-- ---- one way: each row of xs is a row of ys

module _ {H : Type 0} {Tied : H → H → Type 0} {xs ys : Rows H} (I : Into Tied xs ys) where
  -- a row before row i, where what passes is tied to row i
  pub earlier_there : (p : H → Bool) (i : ℕ) → i < xs.count → ((y : H) → p y ≡ true → Tied y (xs.row i))
      → any p (before i xs) ≡ true → any p (before (I.to i) ys) ≡ true
  earlier_there p i l t h =
      let (j, k, g) = some_below i (λ n. p (xs.row n)) h in
      any_below_lem (I.to i) (λ n. p (ys.row n)) (I.to j) (I.keeps j i k l (t (xs.row j) g)) (rw (I.same j (omega arith)) g)

  pub earlier_false : (p : H → Bool) (i : ℕ) → i < xs.count → ((y : H) → p y ≡ true → Tied y (xs.row i))
      → any p (before (I.to i) ys) ≡ false → any p (before i xs) ≡ false
  earlier_false p i l t h = is_false (any p (before i xs)) (λ e. not_both h (earlier_there p i l t e))

  -- tied rows of xs that stand in order in ys stand so in xs
  pub keeps_back : (i j : ℕ) → i < xs.count → j < xs.count → Tied (xs.row j) (xs.row i) → I.to i < I.to j → i < j
  keeps_back i j l k t m = lt_of_not-le (λ (g : j ≤ i).
      elim (eq-or-lt_of_le g) [ inl e ↦ let q = ap I.to e in omega arith | inr h ↦ let q = I.keeps j i h l t in omega arith ])

  pub sum_there : (w : H → ℕ) → sum_below xs.count (λ i. w (xs.row i)) ≤ sum_below ys.count (λ i. w (ys.row i))
  sum_there w =
      sum_le xs.count ys.count (λ i. w (xs.row i)) (λ i. w (ys.row i)) I.to I.to_below I.one_to_one
      (λ i l. le_of_eq (ap w (sym (I.same i l))))

  -- a row that passes is found by its number, in either list
  pub nth_there : (p : H → Bool) (i : ℕ) → i < xs.count → p (xs.row i) ≡ true
      → nth p xs (count_of p (before i xs)) ≡ nth p ys (count_of p (before (I.to i) ys))
  nth_there p i l g =
      rw (
        nth_number xs.count (λ j. p (xs.row j)) i l g,
        nth_number ys.count (λ j. p (ys.row j)) (I.to i) (I.to_below i l) (rw (I.same i l) g),
        I.same i l,
      )

  pub apart_back : (clash : H → H → Bool) → Apart clash ys → Apart clash xs
  apart_back clash h i j l k n =
      rw (I.same i l, I.same j k) at (h (I.to i) (I.to j) (I.to_below i l) (I.to_below j k) (λ e. n (I.one_to_one i j l k e)))

  pub once_back : (p : H → Bool) → Once p ys → Once p xs
  once_back p once i j l k g h =
      I.one_to_one i j l k (once (I.to i) (I.to j) (I.to_below i l) (I.to_below j k) (rw (I.same i l) g) (rw (I.same j k) h))

  -- the one row that passes
  pub one_there : (p : H → Bool) → Once p ys → (x : H) → nth p xs 0 ≡ some x → nth p ys 0 ≡ some x
  one_there p once x e =
      let (i, o, r) = row_at_lem xs (nth_below xs.count (λ j. p (xs.row j)) 0) x e in
      let (l, g, c) = nth_says xs.count (λ j. p (xs.row j)) 0 i o in
      let h : p (ys.row (I.to i)) ≡ true = rw (I.same i l) g in
      let m = I.to_below i l in
      let alone : (j : ℕ) → j < I.to i → p (ys.row j) ≡ false =
      λ j k. is_false (p (ys.row j)) (λ f. let q = once (I.to i) j m (omega arith) h f in omega arith) in
      let z : count_of p (before (I.to i) ys) ≡ 0 = count_none (I.to i) (λ j. p (ys.row j)) alone in
      rw (rw z at (nth_number ys.count (λ j. p (ys.row j)) (I.to i) m h), I.same i l, r)

-- ---- a list with itself

abbrev pub unmoved : {H : Type 0} (Tied : H → H → Type 0) (xs : Rows H) → Paired Tied xs xs
unmoved Tied xs =
    record {
      to = λ i. i;
      from = λ i. i;
      to_below = λ i l. l;
      from_below = λ j l. l;
      from_to = λ i l. refl;
      to_from = λ j l. refl;
      same = λ i l. refl;
      keeps = λ i j l k t. l;
    }

-- ---- both ways, whatever the order

module _ {H : Type 0} {Tied : H → H → Type 0} {xs ys : Rows H} (P : Paired Tied xs ys) where
  -- the row of ys at j, in xs
  pub same_back : (j : ℕ) → j < ys.count → xs.row (P.from j) ≡ ys.row j
  same_back j l = sym (P.same (P.from j) (P.from_below j l)) ∙ ap ys.row (P.to_from j l)

  abbrev pub forth : Into Tied xs ys
  forth =
      record {
        to = P.to;
        to_below = P.to_below;
        one_to_one = λ i j l k e. sym (P.from_to i l) ∙ ap P.from e ∙ P.from_to j k;
        same = P.same;
        keeps = P.keeps;
      }

  abbrev pub back : Into Free ys xs
  back =
      record {
        to = P.from;
        to_below = P.from_below;
        one_to_one = λ i j l k e. sym (P.to_from i l) ∙ ap P.to e ∙ P.to_from j k;
        same = same_back;
        keeps = λ i j l k t. absurd t;
      }

  pub sum_same : (w : H → ℕ) → sum_below xs.count (λ i. w (xs.row i)) ≡ sum_below ys.count (λ i. w (ys.row i))
  sum_same w = le_antisymm (sum_there forth w) (sum_there back w)

  -- as many rows pass
  pub count_same : (p : H → Bool) → count_of p xs ≡ count_of p ys
  count_same p = sum_same (λ x. cond (p x) 1 0)

  pub length_same : xs.count ≡ ys.count
  length_same =
      let all : (n : ℕ) → count_below n (λ _. true) ≡ n = λ n. count_all n (λ _. true) (λ _ _. refl) in
      omega (arith, count_same (λ _. true), all xs.count, all ys.count)

  pub once_there : (p : H → Bool) → Once p xs → Once p ys
  once_there = once_back back

  -- the one row that passes
  pub once_same : (p : H → Bool) → Once p xs → nth p xs 0 ≡ nth p ys 0
  once_same p once = same_option (nth p xs 0) (nth p ys 0) (one_there forth p (once_there p once)) (one_there back p once)

-- ---- both ways, where tied rows keep their order

module _ {H : Type 0} {Tied : H → H → Type 0} (tied-sym : (x y : H) → Tied x y → Tied y x) where
  pub from_keeps : {xs ys : Rows H} (P : Paired Tied xs ys) (i j : ℕ) → i < j → j < ys.count → Tied (ys.row i) (ys.row j)
      → P.from i < P.from j
  from_keeps {xs} {ys} P i j l k t =
      let m : i < ys.count = omega arith in
      keeps_back (forth P) (P.from i) (P.from j) (P.from_below i m) (P.from_below j k)
      (rw (same_back P i m, same_back P j k) (tied-sym _ _ t))
      (rw (P.to_from i m, P.to_from j k) l)

  abbrev pub flip : {xs ys : Rows H} → Paired Tied xs ys → Paired Tied ys xs
  flip P =
      record {
        to = P.from;
        from = P.to;
        to_below = P.from_below;
        from_below = P.to_below;
        from_to = P.to_from;
        to_from = P.from_to;
        same = same_back P;
        keeps = from_keeps P;
      }

  module _ {xs ys : Rows H} (P : Paired Tied xs ys) where
    -- the last row that passes, where rows that pass are tied
    pub last_there : (p : H → Bool) → ((x y : H) → p x ≡ true → p y ≡ true → Tied x y) → (x : H) → last p xs ≡ some x → last p ys ≡ some x
    last_there p t x e =
        let (i, o, r) = row_at_lem xs (last_below xs.count (λ j. p (xs.row j))) x e in
        let (l, g, after) = last_says xs.count (λ j. p (xs.row j)) i o in
        let h : p (ys.row (P.to i)) ≡ true = rw (P.same i l) g in
        let there : LastAt ys.count (λ j. p (ys.row j)) (P.to i) = (
          P.to_below i l,
          h,
          λ j k m. is_false (p (ys.row j)) (λ f.
              let later = from_keeps P (P.to i) j k m (t _ _ h f) in
              let q = P.from_to i l in
              not_both (after (P.from j) (omega arith) (P.from_below j m)) (rw (same_back P j m) f)),
        ) in
        rw (says_last ys.count (λ j. p (ys.row j)) (P.to i) there, P.same i l, r)

  pub last_same : {xs ys : Rows H} (P : Paired Tied xs ys) (p : H → Bool) → ((x y : H) → p x ≡ true → p y ≡ true → Tied x y)
      → last p xs ≡ last p ys
  last_same {xs} {ys} P p t = same_option (last p xs) (last p ys) (last_there P p t) (last_there (flip P) p t)

-- ---- no row clashes with an earlier one: no two rows clash

module _ {H : Type 0} (clash : H → H → Bool) where
  pub earlier_apart : ((x y : H) → clash x y ≡ true → clash y x ≡ true) → (xs : Rows H)
      → ((i : ℕ) → i < xs.count → any (clash (xs.row i)) (before i xs) ≡ false) → Apart clash xs
  earlier_apart clash-sym xs h i j l k n = is_false (clash (xs.row i) (xs.row j)) (λ c.
      elim (dec_lt i j) [
        | yes m ↦ not_both (h j k) (any_below_lem j (λ a. clash (xs.row j) (xs.row a)) i m (clash-sym _ _ c))
        | no m ↦ not_both (h i l) (any_below_lem i (λ a. clash (xs.row i) (xs.row a)) j (omega arith) c)
      ])

  pub apart_earlier : (xs : Rows H) → Apart clash xs → (i : ℕ) → i < xs.count → any (clash (xs.row i)) (before i xs) ≡ false
  apart_earlier xs h i l = is_false (any (clash (xs.row i)) (before i xs)) (λ e.
      let (j, k, g) = some_below i (λ a. clash (xs.row i) (xs.row a)) e in
      not_both (h i j l (omega arith) (omega arith)) g)
