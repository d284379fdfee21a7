-- The rows of two lists joined.
use Rattle.rows.specs.{Below.sum_below, Rows.Rows, Same.SameRows, Lists.joined}
use Rattle.rows.proofs.{Kit.{◌≡◌, sym, ap, ap₂, ◌∙◌, ℕ, ◌+◌, ◌-◌, ◌<◌, dec_lt, arith, lt-ltb, le-ltb}, BelowLaws.{sum_split, sum_cong}}

module _ {H : Type 0} (xs ys : Rows H) where
  pub left_row : (i : ℕ) → i < xs.count → (joined xs ys).row i ≡ xs.row i
  left_row i l = rw (lt-ltb i xs.count l)

  pub right_row : (j : ℕ) → (joined xs ys).row (xs.count + j) ≡ ys.row j
  right_row j =
      let z : xs.count + j - xs.count ≡ j = omega arith in
      rw (le-ltb (xs.count + j) xs.count (omega arith), z)

  -- a row of the joined list is a row of one or of the other
  pub data Side (i : ℕ) : Type 0 where
    lead : i < xs.count → (joined xs ys).row i ≡ xs.row i → Side i
    follow : (j : ℕ) → j < ys.count → i ≡ xs.count + j → (joined xs ys).row i ≡ ys.row j → Side i

  pub side : (i : ℕ) → i < xs.count + ys.count → Side i
  side i l = go (dec_lt i xs.count)
    where
      go : Dec (i < xs.count) → Side i
      go (yes h) = lead h (left_row i h)
      go (no h) =
          let z : i ≡ xs.count + (i - xs.count) = omega arith in
          follow (i - xs.count) (omega arith) z (ap (joined xs ys).row z ∙ right_row (i - xs.count))

  pub sum_joined : (w : H → ℕ)
      → sum_below (xs.count + ys.count) (λ i. w ((joined xs ys).row i)) ≡ sum_below xs.count (λ i. w (xs.row i)) + sum_below ys.count (λ j. w (ys.row j))
  sum_joined w =
      sum_split xs.count ys.count (λ i. w ((joined xs ys).row i))
      ∙ ap₂ (λ (a b : ℕ). a + b) (sum_cong xs.count _ _ (λ i l. ap w (left_row i l))) (sum_cong ys.count _ _ (λ j l. ap w (right_row j)))

-- lists with the same rows, joined
abbrev pub joined_rows : {H : Type 0} {xs ys us vs : Rows H} → SameRows xs us → SameRows ys vs → SameRows (joined xs ys) (joined us vs)
joined_rows {H} {xs} {ys} {us} {vs} S T = record { count = rw (S.count, T.count); row = λ i l. go i (side xs ys i l) }
  where
    go : (i : ℕ) → Side xs ys i → (joined xs ys).row i ≡ (joined us vs).row i
    go i (lead h e) = e ∙ S.row i h ∙ sym (left_row us vs i (let c = S.count in omega arith))
    go i (follow j h z e) =
        let w : i ≡ us.count + j = let c = S.count in omega arith in
        e ∙ T.row j h ∙ sym (ap (joined us vs).row w ∙ right_row us vs j)
