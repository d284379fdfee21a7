-- A row is judged after exactly the earlier rows whose word is 0: the kept rows are those, in their order; and what tests say of them.
use Rattle.rows.{proofs.Kit.{◌≡◌, refl, sym, ap, ◌∙◌, Bool, true, false, cond, not, ◌&&◌, ◌↔◌, inl, inr, Option, none, some, ℕ, zero, suc, ◌+◌, ◌<◌, not-suc-le-zero, arith, not-true}, specs.Below.{last_below, sum_below, count_below}, specs.Rows.{Rows, any, row_at, last, before, more}, proofs.Bools.{not_both, and_parts, cond_same, cond_map}, proofs.BelowLaws.{top, any_below_lem, some_below, count_lt}, proofs.SameLaws.{more_last, more_row, more_before, last_rows}}
use Rattle.igvm_defs.{specs.declared.Fault.Fault, specs.Refusals.is_fault, proofs.RefusalLaws.fault_zero}
use Rattle.rules.specs.Kept.{kept_below, fault_of}
use Rattle.rules.proofs.KeptLaws.{kept_skipped, kept_taken, kept_any}

-- the last row that passes, with one row more
last_added : {H : Type 0} (ks : Rows H) (x : H) (p : H → Bool) → last p (more ks x) ≡ cond (p x) (some x) (last p ks)
unfolding last_below
last_added {H} ks x p =
    cond_map (row_at (more ks x)) (p ((more ks x).row ks.count)) (some ks.count) (last_below ks.count (λ i. p ((more ks x).row i)))
    ∙ cond_same (p ((more ks x).row ks.count)) _ _ _ _ (λ _. ap {B = Option H} some (more_last ks x))
    (λ _. at (last_below ks.count (λ i. p ((more ks x).row i))) ∙ last_rows (more_before ks x) p)
    ∙ ap (λ (h : H). cond (p h) (some x) (last p ks)) (more_last ks x)
  where
    at : (o : Option ℕ) → row_at (more ks x) o ≡ row_at (before ks.count (more ks x)) o
    at none = refl
    at (some i) = refl

module _ {H : Type 0} (rule : Rows H → H → Fault) (xs : Rows H) where
  -- row i is kept
  abbrev pub keeps : ℕ → Bool
  keeps i = not (is_fault (fault_of rule xs i))

  -- as many rows are kept as have no fault
  pub kept_number : (n : ℕ) → (kept_below rule xs n).count ≡ count_below n keeps
  unfolding kept_below sum_below
  kept_number zero = refl
  kept_number (suc n) = go (kept_number n) (is_fault (fault_of rule xs n)) refl
    where
      go : (kept_below rule xs n).count ≡ count_below n keeps → (b : Bool) → is_fault (fault_of rule xs n) ≡ b
          → (kept_below rule xs (suc n)).count ≡ count_below n keeps + cond (keeps n) 1 0
      go h true e = rw (kept_skipped rule xs n e, e) (omega arith)
      go h false e = rw (kept_taken rule xs n e, e) (omega arith)

  -- and each such row stands behind as many as stand before it
  pub kept_place : (n i : ℕ) → i < n → is_fault (fault_of rule xs i) ≡ false → (kept_below rule xs n).row (count_below i keeps) ≡ xs.row i
  unfolding kept_below
  kept_place zero i l z = absurd (not-suc-le-zero l)
  kept_place (suc n) i l z = go (kept_place n i) (is_fault (fault_of rule xs n)) refl
    where
      go : (i < n → is_fault (fault_of rule xs i) ≡ false → (kept_below rule xs n).row (count_below i keeps) ≡ xs.row i) → (b : Bool) → is_fault (fault_of rule xs n) ≡ b
          → (kept_below rule xs (suc n)).row (count_below i keeps) ≡ xs.row i
      go h true e = rw (kept_skipped rule xs n e) (elim (top l) [ inl q ↦ not_both z (rw q e) | inr m ↦ h m z ])
      go h false e =
          rw (kept_taken rule xs n e)
          (elim (top l) [
            | inl q ↦ rw (q, ← kept_number n) (more_last (kept_below rule xs n) (xs.row n))
            | inr m ↦
                let c = kept_number n in
                let d = count_lt i n keeps m (rw z) in
                more_row (kept_below rule xs n) (xs.row n) (count_below i keeps) (omega arith) ∙ h m z
          ])

  -- some kept row passes exactly when some row of word 0 passes: the tests of 14, 26, 29, 32, 33 and 34
  pub kept_some : (p : H → Bool) (n : ℕ) → (any p (kept_below rule xs n) ≡ true) ↔ ((i : ℕ) × (i < n) × ((fault_of rule xs i).number ≡ 0) × (p (xs.row i) ≡ true))
  kept_some p n = (
    λ t.
        let (i, l, h) = some_below n (λ i. keeps i && p (xs.row i)) (sym (kept_any rule xs p n) ∙ t) in
        let (k, q) = and_parts (keeps i) (p (xs.row i)) h in
        (i, l, (fault_zero (fault_of rule xs i)).0 (not-true (is_fault (fault_of rule xs i)) k), q),
    λ (i, l, z, q). kept_any rule xs p n ∙ any_below_lem n (λ i. keeps i && p (xs.row i)) i l (rw ((fault_zero (fault_of rule xs i)).1 z, q)),
  )

  -- the last kept row that passes is the last row of word 0 that passes: the test of 25
  pub kept_last : (p : H → Bool) (n : ℕ) → last p (kept_below rule xs n) ≡ row_at xs (last_below n (λ i. keeps i && p (xs.row i)))
  unfolding kept_below last_below
  kept_last p zero = refl
  kept_last p (suc n) = go (kept_last p n) (is_fault (fault_of rule xs n)) refl
    where
      go : last p (kept_below rule xs n) ≡ row_at xs (last_below n (λ i. keeps i && p (xs.row i))) → (b : Bool) → is_fault (fault_of rule xs n) ≡ b
          → last p (kept_below rule xs (suc n)) ≡ row_at xs (cond (keeps n && p (xs.row n)) (some n) (last_below n (λ i. keeps i && p (xs.row i))))
      go h true e = rw (kept_skipped rule xs n e, e) h
      go h false e =
          rw (kept_taken rule xs n e, e)
          (last_added (kept_below rule xs n) (xs.row n) p
          ∙ rw h (sym (cond_map (row_at xs) (p (xs.row n)) (some n) (last_below n (λ i. keeps i && p (xs.row i))))))
