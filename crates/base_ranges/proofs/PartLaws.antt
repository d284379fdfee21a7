-- The tests of the code, on parts of the range, agree with trying each multiple.
use Prim.Native.Nat.{max as higher, min as lower}
use Rattle.rows.{proofs.Kit.{ℕ, ◌+◌, ◌-◌, ◌≤◌, ◌<◌, ◌≡◌, refl, sym, ap, ◌∙◌, Bool, true, false, cond, not, ◌&&◌, leb, ltb, leb-true, le-leb, lt-leb, ltb-true, ltb-false, lt-ltb, le-ltb, not-true, dec_lt, arith}, proofs.Bools.{not_both, is_false, same_test}}
use Rattle.addresses.{specs.Addresses.is_multiple, specs.declared.BaseCheck.BaseCheck, specs.declared.BaseCheck.TheVariants.{Valid, Unaligned, BelowMinimum, AboveMaximum}, specs.BaseChecks.{base_check, is_valid}}
use Rattle.addresses.proofs.BaseCheckLaws as check
use Rattle.base_ranges.specs.{declared.BaseRange.TheVariants.{Always, Never, Sometimes}, BaseRanges.{any_multiple, has_multiple, range_of, base_range, InRange}, Nearest.multiple_to}
use Rattle.base_ranges.proofs.{RangeLaws.{any_says, says_any, none_says, says_none, exactly}, NearestLaws.{to_multiple, to_below, to_highest}}

-- ---- parts of a range

-- there is a multiple where the last one up to the end is not below the start
pub there : (a lo hi : ℕ) → leb lo (multiple_to hi a) ≡ has_multiple a lo hi
there a lo hi =
    same_test (leb lo (multiple_to hi a)) (has_multiple a lo hi)
    (λ h. says_any a lo hi (λ _. true) (multiple_to hi a) (record { from = leb-true lo (multiple_to hi a) h; to = to_below hi a; multiple = to_multiple hi a }) refl)
    (λ h.
    let (b, i, _) = any_says a lo hi (λ _. true) h in
    let from = i.from in
    let most = to_highest hi a b i.to i.multiple in
    le-leb lo (multiple_to hi a) (omega arith))

-- a part of the range is all that passes
part : (a lo hi from to : ℕ) (p : ℕ → Bool) → ((base : ℕ) → InRange a from to base → InRange a lo hi base × (p base ≡ true))
    → ((base : ℕ) → InRange a lo hi base → p base ≡ true → InRange a from to base) → has_multiple a from to ≡ any_multiple a lo hi p
part a lo hi from to p inside all =
    same_test (has_multiple a from to) (any_multiple a lo hi p)
    (λ h. let (b, i, _) = any_says a from to (λ _. true) h in let (j, q) = inside b i in says_any a lo hi p b j q)
    (λ h. let (b, i, q) = any_says a lo hi p h in says_any a from to (λ _. true) b (all b i q) refl)

-- ---- below the minimum

pub below : (a min lo hi : ℕ) → lo < min → has_multiple a lo (lower hi (min - 1)) ≡ any_multiple a lo hi (λ base. ltb base min)
below a min lo hi l =
    part a lo hi lo (lower hi (min - 1)) (λ base. ltb base min)
    (λ b i. let to = i.to in (record { from = i.from; to = omega arith; multiple = i.multiple }, lt-ltb b min (omega arith)))
    (λ b i h. let u = ltb-true b min h in let to = i.to in record { from = i.from; to = omega arith; multiple = i.multiple })

pub none_below : (a min lo hi : ℕ) → min ≤ lo → any_multiple a lo hi (λ base. ltb base min) ≡ false
none_below a min lo hi l = says_none a lo hi (λ base. ltb base min) (λ b i. let from = i.from in le-ltb b min (omega arith))

-- ---- above the maximum

-- where there is a multiple, one ends above the maximum exactly where the last does
pub above : (a s max lo hi : ℕ) → lo ≤ multiple_to hi a → not (leb (multiple_to hi a + s) max) ≡ any_multiple a lo hi (λ base. ltb max (base + s))
above a s max lo hi l =
    same_test (not (leb (multiple_to hi a + s) max)) (any_multiple a lo hi (λ base. ltb max (base + s)))
    (λ h. says_any a lo hi (λ base. ltb max (base + s)) (multiple_to hi a) (record { from = l; to = to_below hi a; multiple = to_multiple hi a }) (over h))
    (λ h.
    let (b, i, q) = any_says a lo hi (λ base. ltb max (base + s)) h in
    let most = to_highest hi a b i.to i.multiple in
    let u = ltb-true max (b + s) q in
    rw (lt-leb (multiple_to hi a + s) max (omega arith)))
  where
    over : not (leb (multiple_to hi a + s) max) ≡ true → ltb max (multiple_to hi a + s) ≡ true
    over g =
        elim (dec_lt max (multiple_to hi a + s)) [
          | yes l ↦ lt-ltb max (multiple_to hi a + s) l
          | no l ↦ not_both (not-true (leb (multiple_to hi a + s) max) g) (le-leb (multiple_to hi a + s) max (omega arith))
        ]

-- ---- valid

module _ (a s min max : ℕ) where
  abbrev valid : ℕ → Bool
  valid base = is_valid (base_check a s min max base)

  says_valid : (base : ℕ) → is_multiple base a ≡ true → min ≤ base → base + s ≤ max → valid base ≡ true
  says_valid base m p q = rw ((check.exactly a s min max base Valid).1 (m, p, q))

  valid_says : (base : ℕ) → valid base ≡ true → (is_multiple base a ≡ true) × (min ≤ base) × (base + s ≤ max)
  valid_says base h = (check.exactly a s min max base Valid).0 (only (base_check a s min max base) h)
    where
      only : (k : BaseCheck) → is_valid k ≡ true → k ≡ Valid
      only Valid h = refl
      only Unaligned h = not_both refl h
      only BelowMinimum h = not_both refl h
      only AboveMaximum h = not_both refl h

  module _ (lo hi : ℕ) where
    pub valid_part : s ≤ max → has_multiple a (higher lo min) (lower hi (max - s)) ≡ any_multiple a lo hi valid
    valid_part l =
        part a lo hi (higher lo min) (lower hi (max - s)) valid
        (λ b i.
        let from = i.from in
        let to = i.to in
        (record { from = omega arith; to = omega arith; multiple = i.multiple }, says_valid b i.multiple (omega arith) (omega arith)))
        (λ b i h.
        let (m, x, y) = valid_says b h in
        let from = i.from in
        let to = i.to in
        record { from = omega arith; to = omega arith; multiple = m })

    pub none_valid : max < s → any_multiple a lo hi valid ≡ false
    none_valid l = says_none a lo hi valid (λ b i. is_false (valid b) (λ h. let (m, x, y) = valid_says b h in absurd (omega arith)))

    -- ---- the answer

    -- one that passes a test which no valid base passes
    not_valid : (q : ℕ → Bool) → ((base : ℕ) → q base ≡ true → valid base ≡ true → ⊥) → any_multiple a lo hi q ≡ true
        → (base : ℕ) × InRange a lo hi base × (valid base ≡ false)
    not_valid q fails h = let (c, i, t) = any_says a lo hi q h in (c, i, is_false (valid c) (fails c t))

    -- below the minimum, or with an end above the maximum, no base is valid
    not_least : (base : ℕ) → ltb base min ≡ true → valid base ≡ true → ⊥
    not_least base q h = let (m, x, y) = valid_says base h in let u = ltb-true base min q in omega arith

    not_most : (base : ℕ) → ltb max (base + s) ≡ true → valid base ≡ true → ⊥
    not_most base q h = let (m, x, y) = valid_says base h in let u = ltb-true max (base + s) q in omega arith

    -- where none is, each is valid
    each : any_multiple a lo hi (λ base. ltb base min) ≡ false → any_multiple a lo hi (λ base. ltb max (base + s)) ≡ false
        → (base : ℕ) → InRange a lo hi base → valid base ≡ true
    each f g base i =
        says_valid base i.multiple (ltb-false base min (none_says a lo hi (λ base. ltb base min) f base i))
        (ltb-false max (base + s) (none_says a lo hi (λ base. ltb max (base + s)) g base i))

    -- no multiple
    pub none_there : multiple_to hi a < lo → Never ≡ base_range a s min max lo hi
    unfolding base_range
    none_there l =
        sym ((exactly a lo hi valid Never).1 (λ base i. not_both (sym (there a lo hi) ∙ lt-leb lo (multiple_to hi a) l) (says_any a lo hi (λ _. true) base i refl)))

    -- there is one: the answers chosen one after the other are those of the definition
    pub in_order : {b e v : Bool} → lo ≤ multiple_to hi a → b ≡ any_multiple a lo hi (λ base. ltb base min) → e ≡ leb (multiple_to hi a + s) max
        → v ≡ any_multiple a lo hi valid → cond (not b && e) Always (cond v Sometimes Never) ≡ base_range a s min max lo hi
    unfolding base_range
    in_order {b} {e} {v} l f g h = go b e v f (ap not g ∙ above a s max lo hi l) h
      where
        some : (v : Bool) → v ≡ any_multiple a lo hi valid → (base : ℕ) × InRange a lo hi base × (valid base ≡ false) → cond v Sometimes Never ≡ range_of a lo hi valid
        some true e n = sym ((exactly a lo hi valid Sometimes).1 (any_says a lo hi valid (sym e), n))
        some false e n = sym ((exactly a lo hi valid Never).1 (none_says a lo hi valid (sym e)))

        go : (b e v : Bool) → b ≡ any_multiple a lo hi (λ base. ltb base min) → not e ≡ any_multiple a lo hi (λ base. ltb max (base + s)) → v ≡ any_multiple a lo hi valid
            → cond (not b && e) Always (cond v Sometimes Never) ≡ range_of a lo hi valid
        go true e v f g h = some v h (not_valid (λ base. ltb base min) not_least (sym f))
        go false false v f g h = some v h (not_valid (λ base. ltb max (base + s)) not_most (sym g))
        go false true v f g h =
            let i : InRange a lo hi (multiple_to hi a) = record { from = l; to = to_below hi a; multiple = to_multiple hi a } in
            sym ((exactly a lo hi valid Always).1 ((multiple_to hi a, i), each (sym f) (sym g)))

    -- ---- the answer with no multiple tried

    -- one is below the minimum; one is valid
    abbrev is_below : Bool
    is_below = ltb lo min && leb lo (multiple_to (lower hi (min - 1)) a)

    abbrev is_one_valid : Bool
    is_one_valid = not (ltb max s) && leb (higher lo min) (multiple_to (lower hi (max - s)) a)

    pub closed : cond (ltb (multiple_to hi a) lo) Never (cond (not is_below && leb (multiple_to hi a + s) max) Always (cond is_one_valid Sometimes Never)) ≡ base_range a s min max lo hi
    closed =
        elim (dec_lt (multiple_to hi a) lo) [
          | yes l ↦ rw (lt-ltb (multiple_to hi a) lo l) (none_there l)
          | no l ↦ rw (le-ltb (multiple_to hi a) lo (omega arith)) (in_order (omega arith) below_same refl valid_same)
        ]
      where
        below_same : is_below ≡ any_multiple a lo hi (λ base. ltb base min)
        below_same =
            elim (dec_lt lo min) [
              | yes l ↦ rw (lt-ltb lo min l) (there a lo (lower hi (min - 1)) ∙ below a min lo hi l)
              | no l ↦ rw (le-ltb lo min (omega arith)) (sym (none_below a min lo hi (omega arith)))
            ]

        valid_same : is_one_valid ≡ any_multiple a lo hi valid
        valid_same =
            elim (dec_lt max s) [
              | yes l ↦ rw (lt-ltb max s l) (sym (none_valid l))
              | no l ↦ rw (le-ltb max s (omega arith)) (there a (higher lo min) (lower hi (max - s)) ∙ valid_part (omega arith))
            ]
