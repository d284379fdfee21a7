-- A range of bases: each answer is given exactly where what it says is true, the numbers tell the answers apart, and how the answers on two ranges go together.
use Rattle.rows.{proofs.Kit.{ℕ, ◌+◌, ◌≤◌, ◌≡◌, refl, sym, ap, ◌∙◌, ◌↔◌, Bool, true, false, cond, not, ◌&&◌, and-false, false≢true, eqb, leb, ltb, leb-true, le-leb, le_antisymm, arith}, proofs.Bools.{not_both, is_false, and_parts}, proofs.BelowLaws.{any_below_lem, some_below}}
use Rattle.addresses.{specs.Addresses.is_multiple, specs.declared.BaseCheck.TheVariants.{Valid, Unaligned, BelowMinimum, AboveMaximum}, specs.BaseChecks.{base_check, is_valid}}
use Rattle.base_ranges.specs.{declared.BaseRange.BaseRange, declared.BaseRange.TheVariants.{Always, Never, Sometimes}, BaseRanges.{any_multiple, has_multiple, range_of, base_range, range_number, InRange, Says}}

-- ---- the numbers

-- the answer of a number
abbrev named : ℕ → BaseRange
named n = cond (eqb n 1) Always (cond (eqb n 2) Never Sometimes)

named_number : (k : BaseRange) → named (range_number k) ≡ k
named_number Always = refl
named_number Never = refl
named_number Sometimes = refl

-- two answers of one number are the same
pub one_number : (x y : BaseRange) → range_number x ≡ range_number y → x ≡ y
one_number x y e = sym (named_number x) ∙ ap named e ∙ named_number y

-- 0 is the number of none
pub no_number_zero : (k : BaseRange) → eqb (range_number k) 0 ≡ false
no_number_zero Always = refl
no_number_zero Never = refl
no_number_zero Sometimes = refl

-- ---- some multiple passes, and none does

module _ (a lo hi : ℕ) (p : ℕ → Bool) where
  pub any_says : any_multiple a lo hi p ≡ true → (base : ℕ) × InRange a lo hi base × (p base ≡ true)
  unfolding any_multiple
  any_says h =
      let (b, l, t) = some_below (hi + 1) (λ b. leb lo b && is_multiple b a && p b) h in
      let (m, q) = and_parts (leb lo b && is_multiple b a) (p b) t in
      let (f, g) = and_parts (leb lo b) (is_multiple b a) m in
      (b, record { from = leb-true lo b f; to = omega arith; multiple = g }, q)

  pub says_any : (base : ℕ) → InRange a lo hi base → p base ≡ true → any_multiple a lo hi p ≡ true
  unfolding any_multiple
  says_any b i q =
      let l = i.to in
      any_below_lem (hi + 1) (λ b. leb lo b && is_multiple b a && p b) b (omega arith) (rw (le-leb lo b i.from, i.multiple, q))

  pub none_says : any_multiple a lo hi p ≡ false → (base : ℕ) → InRange a lo hi base → p base ≡ false
  none_says h b i = is_false (p b) (λ q. not_both h (says_any b i q))

  pub says_none : ((base : ℕ) → InRange a lo hi base → p base ≡ false) → any_multiple a lo hi p ≡ false
  says_none f = is_false (any_multiple a lo hi p) (λ h. let (b, i, q) = any_says h in not_both (f b i) q)

-- ---- what is said

module _ (a lo hi : ℕ) (p : ℕ → Bool) where
  abbrev fails : ℕ → Bool
  fails base = not (p base)

  failing : (base : ℕ) → fails base ≡ true → p base ≡ false
  failing base h = is_false (p base) (λ q. false≢true (rw q at h))

  passing : (base : ℕ) → fails base ≡ false → p base ≡ true
  passing base h = go (p base) h
    where
      go : (t : Bool) → not t ≡ false → t ≡ true
      go true h = refl
      go false h = sym h

  says : Says a lo hi p (range_of a lo hi p)
  unfolding range_of
  says = go _ _ _ refl refl refl
    where
      go : (t f v : Bool) → has_multiple a lo hi ≡ t → any_multiple a lo hi fails ≡ f → any_multiple a lo hi p ≡ v
          → Says a lo hi p (cond (t && not f) Always (cond (not v) Never Sometimes))
      go true false v e f g =
          let (b, i, _) = any_says a lo hi (λ _. true) e in
          ((b, i), λ base i. passing base (none_says a lo hi fails f base i))
      go true true true e f g =
          let (b, i, q) = any_says a lo hi fails f in
          (any_says a lo hi p g, (b, i, failing b q))
      go true true false e f g = none_says a lo hi p g
      go false f true e h g = let (b, i, _) = any_says a lo hi p g in not_both e (says_any a lo hi (λ _. true) b i refl)
      go false f false e h g = none_says a lo hi p g

  told : (k : BaseRange) → Says a lo hi p k → range_of a lo hi p ≡ k
  unfolding range_of
  told Always ((b, i), all) =
      rw (says_any a lo hi (λ _. true) b i refl, says_none a lo hi fails (λ base i. rw (all base i)))
  told Never none = rw (says_none a lo hi p none) (go _ _ refl refl)
    where
      go : (t f : Bool) → has_multiple a lo hi ≡ t → any_multiple a lo hi fails ≡ f → cond (t && not f) Always Never ≡ Never
      go true true e f = refl
      go true false e f =
          let (b, i, _) = any_says a lo hi (λ _. true) e in
          not_both (none b i) (passing b (none_says a lo hi fails f b i))
      go false f e h = refl
  told Sometimes ((b, i, q), (c, j, r)) = rw (says_any a lo hi p b i q, says_any a lo hi fails c j (rw r), and-false (has_multiple a lo hi))

  -- an answer is given exactly where what it says is true
  pub exactly : (k : BaseRange) → (range_of a lo hi p ≡ k) ↔ Says a lo hi p k
  exactly k = (λ e. rw e at says, told k)

-- ---- one base, and a range within a range

-- a range of one base: always where it is a multiple that passes, else never
one_passes : (a base : ℕ) (p : ℕ → Bool) → range_of a base base p ≡ cond (is_multiple base a && p base) Always Never
one_passes a base p = go _ _ refl refl
  where
    only : (b : ℕ) → InRange a base base b → b ≡ base
    only b i = le_antisymm i.to i.from

    go : (m q : Bool) → is_multiple base a ≡ m → p base ≡ q → range_of a base base p ≡ cond (m && q) Always Never
    go true true e f =
        (exactly a base base p Always).1
        ((base, record { from = omega arith; to = omega arith; multiple = e }), λ b i. ap p (only b i) ∙ f)
    go true false e f = (exactly a base base p Never).1 (λ b i. ap p (only b i) ∙ f)
    go false q e f = (exactly a base base p Never).1 (λ b i. not_both e (ap (λ x. is_multiple x a) (sym (only b i)) ∙ i.multiple))

module _ (a lo hi from to : ℕ) (p : ℕ → Bool) (low : lo ≤ from) (high : to ≤ hi) where
  wider : (base : ℕ) → InRange a from to base → InRange a lo hi base
  wider base i = let f = i.from in let t = i.to in record { from = omega arith; to = omega arith; multiple = i.multiple }

  -- never stays never in a range within
  pub within_never : range_of a lo hi p ≡ Never → range_of a from to p ≡ Never
  within_never h = (exactly a from to p Never).1 (λ base i. (exactly a lo hi p Never).0 h base (wider base i))

  -- and always stays always where there is a multiple
  pub within_always : range_of a lo hi p ≡ Always → has_multiple a from to ≡ true → range_of a from to p ≡ Always
  within_always h m =
      let (b, i, _) = any_says a from to (λ _. true) m in
      (exactly a from to p Always).1 ((b, i), λ base i. ((exactly a lo hi p Always).0 h).1 base (wider base i))

-- ---- valid bases

-- a range of one base is always exactly where the base check says valid, else never
pub one_base : (a s min max base : ℕ) → base_range a s min max base base ≡ cond (is_valid (base_check a s min max base)) Always Never
unfolding base_range base_check
one_base a s min max base = one_passes a base (λ b. is_valid (base_check a s min max b)) ∙ go (is_multiple base a) (ltb base min) (ltb max (base + s))
  where
    go : (m b w : Bool)
        → cond (m && is_valid (cond (not m) Unaligned (cond b BelowMinimum (cond w AboveMaximum Valid)))) Always Never
        ≡ cond (is_valid (cond (not m) Unaligned (cond b BelowMinimum (cond w AboveMaximum Valid)))) Always Never
    go true b w = refl
    go false b w = refl
