-- Laws of kept rows, for any rule that looks at the earlier rows alone.
use Rattle.rows.{proofs.Kit.{◌≡◌, refl, sym, ap, ◌∙◌, Bool, true, false, not, ◌&&◌, ◌||◌, or-false, ◌⊎◌, inl, inr, Option, none, some, ℕ, zero, suc, ◌+◌, ◌-◌, ◌≤◌, ◌<◌, not-suc-le-zero, add-zero, add-suc, add-one, arith, lt-ltb, le-ltb}, specs.Below.{any_below, first_below}, specs.Rows.{Rows, any, before, more, without}, specs.Same.SameRows, proofs.BelowLaws.{top, first_none, first_says}, proofs.SameLaws.{more_last, more_row, more_before, any_added}}
use Rattle.igvm_defs.specs.{declared.Fault.Fault, Refusals.{is_fault, refusal_at, first_fault}}
use Rattle.rules.specs.Kept.{kept_below, fault_of, kept}

-- ---- rules

-- a rule that says the same after lists with the same rows
abbrev pub Steady : {H : Type 0} → (Rows H → H → Fault) → Type 0
Steady {H} rule = (xs ys : Rows H) (h : H) → SameRows xs ys → rule xs h ≡ rule ys h

module _ {H : Type 0} (rule : Rows H → H → Fault) (xs : Rows H) where
  pub kept_skipped : (n : ℕ) → is_fault (fault_of rule xs n) ≡ true → kept_below rule xs (suc n) ≡ kept_below rule xs n
  unfolding kept_below
  kept_skipped n e = rw e

  pub kept_taken : (n : ℕ) → is_fault (fault_of rule xs n) ≡ false → kept_below rule xs (suc n) ≡ more (kept_below rule xs n) (xs.row n)
  unfolding kept_below
  kept_taken n e = rw e

  -- no more rows are kept than there are
  pub kept_count : (n : ℕ) → (kept_below rule xs n).count ≤ n
  unfolding kept_below
  kept_count zero = omega arith
  kept_count (suc n) = go (kept_count n) (is_fault (fault_of rule xs n)) refl
    where
      go : (kept_below rule xs n).count ≤ n → (b : Bool) → is_fault (fault_of rule xs n) ≡ b → (kept_below rule xs (suc n)).count ≤ suc n
      go h true e = rw (kept_skipped n e) (omega arith)
      go h false e = rw (kept_taken n e) (omega arith)

  -- what holds of the rows kept so far after one row more: a faulty row changes nothing
  pub kept_next : (Holds : Rows H → Type 0) (n : ℕ) (f : Fault) → f ≡ fault_of rule xs n → (is_fault f ≡ true → Holds (kept_below rule xs n))
      → (is_fault f ≡ false → Holds (more (kept_below rule xs n) (xs.row n))) → Holds (kept_below rule xs (n + 1))
  kept_next Holds n f told skipped taken = rw add-one (go (is_fault f) refl)
    where
      go : (b : Bool) → is_fault f ≡ b → Holds (kept_below rule xs (suc n))
      go true e = rw (kept_skipped n (rw (← told) e)) (skipped e)
      go false e = rw (kept_taken n (rw (← told) e)) (taken e)

  -- what the kept rows say of a test
  pub kept_any : (p : H → Bool) (n : ℕ) → any p (kept_below rule xs n) ≡ any_below n (λ i. not (is_fault (fault_of rule xs i)) && p (xs.row i))
  unfolding any_below kept_below
  kept_any p zero = refl
  kept_any p (suc n) = go (kept_any p n) (is_fault (fault_of rule xs n)) refl
    where
      go : any p (kept_below rule xs n) ≡ any_below n (λ i. not (is_fault (fault_of rule xs i)) && p (xs.row i)) → (b : Bool) → is_fault (fault_of rule xs n) ≡ b
          → any p (kept_below rule xs (suc n)) ≡ (any_below n (λ i. not (is_fault (fault_of rule xs i)) && p (xs.row i)) || (not (is_fault (fault_of rule xs n)) && p (xs.row n)))
      go h true e = rw (kept_skipped n e, e, h) (sym (or-false _))
      go h false e = rw (kept_taken n e, e, any_added (kept_below rule xs n) (xs.row n) p, h)

  module _ (steady : Steady rule) where
    -- while no row has a fault, all are kept
    pub kept_all : (n : ℕ) → ((j : ℕ) → j < n → is_fault (fault_of rule xs j) ≡ false) → SameRows (kept_below rule xs n) (before n xs)
    unfolding kept_below
    kept_all zero h = record { count = refl; row = λ i l. refl }
    kept_all (suc n) h = rw (kept_taken n (h n (omega arith))) (go (kept_all n (λ j l. h j (omega arith))))
      where
        go : SameRows (kept_below rule xs n) (before n xs) → SameRows (more (kept_below rule xs n) (xs.row n)) (before (suc n) xs)
        go S = record { count = ap suc S.count; row = λ i l. at i (top l) }
          where
            at : (i : ℕ) → (i ≡ (kept_below rule xs n).count) ⊎ (i < (kept_below rule xs n).count) → (more (kept_below rule xs n) (xs.row n)).row i ≡ xs.row i
            at i (inl e) = rw (e, more_last (kept_below rule xs n) (xs.row n), S.count)
            at i (inr l) = more_row (kept_below rule xs n) (xs.row n) i l ∙ S.row i l

    -- so a row before which no row has a fault has the fault that it has after all earlier rows
    pub fault_same : (i : ℕ) → ((j : ℕ) → j < i → is_fault (fault_of rule xs j) ≡ false) → fault_of rule xs i ≡ rule (before i xs) (xs.row i)
    fault_same i h = steady _ _ (xs.row i) (kept_all i h)

    -- the first fault is the same, whether faulty rows are skipped or not
    pub first_fault_same : (first n : ℕ) → first_fault first n (fault_of rule xs) ≡ first_fault first n (λ i. rule (before i xs) (xs.row i))
    unfolding first_fault first_below
    first_fault_same first n = rw (← first_agree n) (at (first_below n p) refl)
      where
        p : ℕ → Bool
        p i = is_fault (fault_of rule xs i)

        q : ℕ → Bool
        q i = is_fault (rule (before i xs) (xs.row i))

        first_agree : (m : ℕ) → first_below m p ≡ first_below m q
        first_agree zero = refl
        first_agree (suc m) = go (first_agree m) (first_below m p) refl
          where
            go : first_below m p ≡ first_below m q → (o : Option ℕ) → first_below m p ≡ o → first_below (suc m) p ≡ first_below (suc m) q
            go ih none e = rw (← ih, ap is_fault (fault_same m ((first_none m p).0 e)))
            go ih (some i) e = rw (← ih, e)

        at : (o : Option ℕ) → first_below n p ≡ o → refusal_at first (fault_of rule xs) o ≡ refusal_at first (λ i. rule (before i xs) (xs.row i)) o
        at none e = refl
        at (some i) e = rw (fault_same i (first_says n p i e).2)

    -- among the kept rows none has a fault
    pub kept_sound : (n i : ℕ) → i < (kept_below rule xs n).count
        → is_fault (rule (before i (kept_below rule xs n)) ((kept_below rule xs n).row i)) ≡ false
    unfolding kept_below
    kept_sound zero i l = absurd (not-suc-le-zero (kept_none l))
      where
        kept_none : i < (kept_below rule xs 0).count → i < 0
        kept_none l = l
    kept_sound (suc n) i l = go (kept_sound n i) (is_fault (fault_of rule xs n)) refl l
      where
        Goal : Rows H → Type 0
        Goal ks = i < ks.count → is_fault (rule (before i ks) (ks.row i)) ≡ false

        go : Goal (kept_below rule xs n) → (b : Bool) → is_fault (fault_of rule xs n) ≡ b → Goal (kept_below rule xs (suc n))
        go h true e = rw (kept_skipped n e) h
        go h false e = rw (kept_taken n e) (λ l. at (top l))
          where
            at : (i ≡ (kept_below rule xs n).count) ⊎ (i < (kept_below rule xs n).count)
                → is_fault (rule (before i (more (kept_below rule xs n) (xs.row n))) ((more (kept_below rule xs n) (xs.row n)).row i)) ≡ false
            at (inl z) =
                rw (z, more_last (kept_below rule xs n) (xs.row n), steady _ _ (xs.row n) (more_before (kept_below rule xs n) (xs.row n))) e
            at (inr l) =
                rw (
                  more_row (kept_below rule xs n) (xs.row n) i l,
                  steady (before i (more (kept_below rule xs n) (xs.row n))) (before i (kept_below rule xs n)) ((kept_below rule xs n).row i)
                      (record { count = refl; row = λ j k. more_row (kept_below rule xs n) (xs.row n) j (omega arith) }),
                ) (h l)

-- ---- a row left out

module _ {H : Type 0} (rule : Rows H → H → Fault) (steady : Steady rule) (xs ys : Rows H) where
  same_more : (i j : ℕ) → SameRows (kept_below rule ys i) (kept_below rule xs j) → ys.row i ≡ xs.row j
      → SameRows (kept_below rule ys (suc i)) (kept_below rule xs (suc j))
  same_more i j S e = go (is_fault (fault_of rule xs j)) refl
    where
      same : fault_of rule ys i ≡ fault_of rule xs j
      same = rw e (steady (kept_below rule ys i) (kept_below rule xs j) (xs.row j) S)

      at : (k : ℕ) → (k ≡ (kept_below rule ys i).count) ⊎ (k < (kept_below rule ys i).count)
          → (more (kept_below rule ys i) (ys.row i)).row k ≡ (more (kept_below rule xs j) (xs.row j)).row k
      at k (inl z) =
          rw (z, more_last (kept_below rule ys i) (ys.row i), e, S.count) (sym (more_last (kept_below rule xs j) (xs.row j)))
      at k (inr l) =
          more_row (kept_below rule ys i) (ys.row i) k l ∙ S.row k l ∙ sym (more_row (kept_below rule xs j) (xs.row j) k (let c = S.count in omega arith))

      go : (b : Bool) → is_fault (fault_of rule xs j) ≡ b → SameRows (kept_below rule ys (suc i)) (kept_below rule xs (suc j))
      go true t = rw (kept_skipped rule ys i (ap is_fault same ∙ t), kept_skipped rule xs j t) S
      go false t =
          rw (kept_taken rule ys i (ap is_fault same ∙ t), kept_taken rule xs j t)
          (record { count = ap suc S.count; row = λ k l. at k (top l) })

module _ {H : Type 0} (rule : Rows H → H → Fault) (steady : Steady rule) (xs : Rows H) (m : ℕ) (faulty : is_fault (fault_of rule xs m) ≡ true) where
  up_to : (n : ℕ) → n ≤ m → SameRows (kept_below rule (without m xs) n) (kept_below rule xs n)
  unfolding kept_below
  up_to zero l = record { count = refl; row = λ i h. absurd (not-suc-le-zero h) }
  up_to (suc n) l = same_more rule steady xs (without m xs) n n (up_to n (omega arith)) (rw (lt-ltb n m (omega arith)))

  past : (d : ℕ) → SameRows (kept_below rule (without m xs) (m + d)) (kept_below rule xs (suc (m + d)))
  past zero = rw (add-zero, kept_skipped rule xs m faulty) (up_to m (omega arith))
  past (suc d) =
      rw (add-suc m d) (same_more rule steady xs (without m xs) (m + d) (suc (m + d)) (past d) (rw (le-ltb (m + d) m (omega arith))))

  -- a faulty row left out changes no other row's fault
  pub earlier_fault : (i : ℕ) → i < m → fault_of rule (without m xs) i ≡ fault_of rule xs i
  earlier_fault i l = rw (lt-ltb i m l) (steady _ _ (xs.row i) (up_to i (omega arith)))

  pub later_fault : (i : ℕ) → m ≤ i → fault_of rule (without m xs) i ≡ fault_of rule xs (suc i)
  later_fault i l =
      let z : i ≡ m + (i - m) = omega arith in
      rw (le-ltb i m l) (steady _ _ (xs.row (suc i)) (rw (← z) at (past (i - m))))

  -- nor the rows that are kept
  pub kept_without : m < xs.count → SameRows (kept rule (without m xs)) (kept rule xs)
  kept_without l =
      let z : m + (xs.count - 1 - m) ≡ xs.count - 1 = omega arith in
      let w : suc (xs.count - 1) ≡ xs.count = omega arith in
      rw (z, w) at (past (xs.count - 1 - m))
