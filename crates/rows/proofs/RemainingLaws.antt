-- The rows of a list that remain: which they are, how many pass a test, and which of them is number k that does.
use native.Mathlib.Nat.{lt_of_not-le}
use Rattle.rows.specs.{Below.{sum_below, count_below, nth_below}, Rows.{Rows, row_at, count_of, nth}, Same.SameRows, Lists.{index_or0, remaining_index, remaining}, Paired.Into}
use Rattle.rows.proofs.{Kit.{◌≡◌, refl, sym, ap, ◌∙◌, Bool, true, false, cond, ◌&&◌, and-true, and-false, Option, none, some, ℕ, zero, suc, ◌+◌, ◌≤◌, ◌<◌, arith}, Bools.and_parts, BelowLaws.{sum_mono, count_more, count_lt, count_all, count_same_tests, nth_number, nth_says, nth_none, nth_some, nth_few}}

module _ (remains : ℕ → Bool) where
  -- ---- index j has number i
  pub record Place (n i j : ℕ) : Type 0 where
    pub below : j < n
    pub there : remains j ≡ true
    pub number : count_below j remains ≡ i

  pub place : (n i : ℕ) → i < count_below n remains → Place n i (remaining_index remains n i)
  unfolding remaining_index
  place n i l =
      let (j, e) = nth_some n remains i l in
      let (b, g, c) = nth_says n remains i j e in
      rw e (record { below = b; there = g; number = c })

  pub index_of : (n j : ℕ) → j < n → remains j ≡ true → remaining_index remains n (count_below j remains) ≡ j
  unfolding remaining_index
  index_of n j l g = ap index_or0 (nth_number n remains j l g)

  index_stable : (m n i : ℕ) → m ≤ n → i < count_below m remains → remaining_index remains n i ≡ remaining_index remains m i
  index_stable m n i l h =
      let p = place m i h in
      let e = index_of n (remaining_index remains m i) (omega arith) p.there in
      rw p.number at e

  -- ---- how many of those that remain pass
  count_remaining : (n : ℕ) (p : ℕ → Bool) → count_below (count_below n remains) (λ i. p (remaining_index remains n i)) ≡ count_below n (λ j. p j && remains j)
  unfolding sum_below
  count_remaining zero p = refl
  count_remaining (suc n) p = go (count_same_tests (count_below n remains) _ _ same ∙ count_remaining n p) (remains n) refl
    where
      same : (i : ℕ) → i < count_below n remains → p (remaining_index remains (suc n) i) ≡ p (remaining_index remains n i)
      same i l = ap p (index_stable n (suc n) i (omega arith) l)

      go : count_below (count_below n remains) (λ i. p (remaining_index remains (suc n) i)) ≡ count_below n (λ j. p j && remains j) → (b : Bool) → remains n ≡ b
          → count_below (count_below n remains + cond b 1 0) (λ i. p (remaining_index remains (suc n) i)) ≡ count_below n (λ j. p j && remains j) + cond (p n && b) 1 0
      go before true e =
          let at : remaining_index remains (suc n) (count_below n remains) ≡ n = index_of (suc n) n (omega arith) e in
          rw (count_more (count_below n remains) (λ i. p (remaining_index remains (suc n) i)), before, at, and-true)
      go before false e =
          let z : count_below n remains + 0 ≡ count_below n remains = omega arith in
          rw (z, before, and-false) (omega arith)

  -- ---- number k of those that remain and pass
  nth_remaining : (n : ℕ) (p : ℕ → Bool) (k j : ℕ) → nth_below n (λ j. p j && remains j) k ≡ some j
      → (i : ℕ) × (nth_below (count_below n remains) (λ i. p (remaining_index remains n i)) k ≡ some i) × (remaining_index remains n i ≡ j)
  nth_remaining n p k j e =
      let (l, g, c) = nth_says n (λ j. p j && remains j) k j e in
      let (gp, gr) = and_parts (p j) (remains j) g in
      let i = count_below j remains in
      let at = index_of n j l gr in
      let il : i < count_below n remains = count_lt j n remains l gr in
      let q : count_below i (λ a. p (remaining_index remains n a)) ≡ k =
      count_same_tests i _ (λ a. p (remaining_index remains j a)) (λ a b. ap p (index_stable j n a (omega arith) b)) ∙ count_remaining j p ∙ c in
      (i, rw q at (nth_number (count_below n remains) (λ a. p (remaining_index remains n a)) i il (ap p at ∙ gp)), at)

-- ---- lists

module _ {H : Type 0} (remains : ℕ → Bool) (xs : Rows H) where
  pub count_remaining_rows : (p : H → Bool) → count_of p (remaining remains xs) ≡ count_below xs.count (λ j. p (xs.row j) && remains j)
  count_remaining_rows p = count_remaining remains xs.count (λ j. p (xs.row j))

  pub nth_remaining_rows : (p : H → Bool) (k : ℕ) → nth p (remaining remains xs) k ≡ row_at xs (nth_below xs.count (λ j. p (xs.row j) && remains j) k)
  nth_remaining_rows p k = go (nth_below xs.count (λ j. p (xs.row j) && remains j) k) refl
    where
      go : (o : Option ℕ) → nth_below xs.count (λ j. p (xs.row j) && remains j) k ≡ o → nth p (remaining remains xs) k ≡ row_at xs o
      go (some j) e =
          let (i, f, at) = nth_remaining remains xs.count (λ j. p (xs.row j)) k j e in
          rw f (ap {B = Option H} (λ (n : ℕ). some (xs.row n)) at)
      go none e =
          let few = nth_none xs.count (λ j. p (xs.row j) && remains j) k e in
          let c = count_remaining_rows p in
          rw (nth_few (count_below xs.count remains) (λ i. p (xs.row (remaining_index remains xs.count i))) k (omega arith))

  -- the rows that remain stand in xs, in their order, whatever rows are tied
  abbrev pub remaining_into : (Tied : H → H → Type 0) → Into Tied (remaining remains xs) xs
  remaining_into Tied =
      record {
        to = remaining_index remains xs.count;
        to_below = λ i l. (place remains xs.count i l).below;
        one_to_one = λ i j l k e.
            sym (place remains xs.count i l).number ∙ ap (λ m. count_below m remains) e ∙ (place remains xs.count j k).number;
        same = λ i l. refl;
        keeps = λ i j l k t. rising i j l k;
      }
    where
      rising : (i j : ℕ) → i < j → j < count_below xs.count remains → remaining_index remains xs.count i < remaining_index remains xs.count j
      rising i j l k = lt_of_not-le (λ g.
          let a = (place remains xs.count i (omega arith)).number in
          let b = (place remains xs.count j k).number in
          let m = sum_mono (remaining_index remains xs.count j) (remaining_index remains xs.count i) (λ a. cond (remains a) 1 0) g in
          omega arith)

  -- and every row that remains stands in them
  pub remaining_there : (j : ℕ) → j < xs.count → remains j ≡ true → (i : ℕ) × (i < (remaining remains xs).count) × (remaining_index remains xs.count i ≡ j)
  remaining_there j l g = (count_below j remains, count_lt j xs.count remains l g, index_of remains xs.count j l g)

  -- where all remain, they are the rows of xs
  pub all_remain : ((j : ℕ) → j < xs.count → remains j ≡ true) → SameRows (remaining remains xs) xs
  all_remain h =
      let all : (n : ℕ) → n ≤ xs.count → count_below n remains ≡ n = λ n l. count_all n remains (λ j k. h j (omega arith)) in
      record {
        count = all xs.count (omega arith);
        row = λ i l.
            let b : i < xs.count = let c = all xs.count (omega arith) in omega arith in
            let e = index_of remains xs.count i b (h i b) in
            ap xs.row (rw (all i (omega arith)) at e);
      }
