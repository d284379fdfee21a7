-- Lists with the same rows, and lists with one row more: what tests say of them.
use Rattle.rows.specs.{Below.{any_below, last_below, nth_below}, Rows.{Rows, any, row_at, last, before, more, count_of, nth}, Same.SameRows}
use Rattle.rows.proofs.{Kit.{◌≡◌, refl, sym, ap, ◌∙◌, Bool, ◌||◌, Option, none, some, ℕ, ◌≤◌, ◌<◌, arith, eq-eqb, ne_eqb}, BelowLaws.{any_same_tests, last_same_tests, last_says, count_same_tests, nth_same_tests, nth_says}}

abbrev pub rows_refl : {H : Type 0} (xs : Rows H) → SameRows xs xs
rows_refl xs = record { count = refl; row = λ i l. refl }

abbrev pub rows_sym : {H : Type 0} {xs ys : Rows H} → SameRows xs ys → SameRows ys xs
rows_sym S = record { count = sym S.count; row = λ i l. sym (S.row i (let c = S.count in omega arith)) }

abbrev pub rows_trans : {H : Type 0} {xs ys zs : Rows H} → SameRows xs ys → SameRows ys zs → SameRows xs zs
rows_trans S T = record { count = S.count ∙ T.count; row = λ i l. S.row i l ∙ T.row i (let c = S.count in omega arith) }

module _ {H : Type 0} {xs ys : Rows H} (S : SameRows xs ys) where
  pub any_rows : (p : H → Bool) → any p xs ≡ any p ys
  any_rows p = any_same_tests xs.count _ _ (λ i l. ap p (S.row i l)) ∙ rw S.count

  pub last_rows : (p : H → Bool) → last p xs ≡ last p ys
  last_rows p =
      go (last_below xs.count (λ i. p (xs.row i))) refl
      ∙ rw (last_same_tests xs.count (λ i. p (xs.row i)) (λ i. p (ys.row i)) (λ i l. ap p (S.row i l)), S.count)
    where
      go : (o : Option ℕ) → last_below xs.count (λ i. p (xs.row i)) ≡ o → row_at xs o ≡ row_at ys o
      go none e = refl
      go (some i) e = ap {B = Option H} some (S.row i (last_says xs.count (λ i. p (xs.row i)) i e).0)

  pub count_rows : (p : H → Bool) → count_of p xs ≡ count_of p ys
  count_rows p = count_same_tests xs.count (λ i. p (xs.row i)) (λ i. p (ys.row i)) (λ i l. ap p (S.row i l)) ∙ rw S.count

  pub nth_rows : (p : H → Bool) (k : ℕ) → nth p xs k ≡ nth p ys k
  nth_rows p k =
      go (nth_below xs.count (λ i. p (xs.row i)) k) refl
      ∙ rw (nth_same_tests xs.count (λ i. p (xs.row i)) (λ i. p (ys.row i)) k (λ i l. ap p (S.row i l)), S.count)
    where
      go : (o : Option ℕ) → nth_below xs.count (λ i. p (xs.row i)) k ≡ o → row_at xs o ≡ row_at ys o
      go none e = refl
      go (some i) e = ap {B = Option H} some (S.row i (nth_says xs.count (λ i. p (xs.row i)) k i e).0)

  -- the rows before row i
  abbrev pub before_rows : (i : ℕ) → i ≤ xs.count → SameRows (before i xs) (before i ys)
  before_rows i l = record { count = refl; row = λ j k. S.row j (omega arith) }

-- ---- one row more

module _ {H : Type 0} (xs : Rows H) (x : H) where
  pub more_last : (more xs x).row xs.count ≡ x
  more_last = rw (eq-eqb xs.count xs.count refl)

  pub more_row : (i : ℕ) → i < xs.count → (more xs x).row i ≡ xs.row i
  more_row i l = rw (ne_eqb i xs.count (λ e. omega arith))

  -- the rows before the new one
  abbrev pub more_before : SameRows (before xs.count (more xs x)) xs
  more_before = record { count = refl; row = more_row }

  pub any_added : (p : H → Bool) → any p (more xs x) ≡ (any p xs || p x)
  unfolding any_below
  any_added p = rw (any_rows more_before p, more_last)
