-- Laws of decimal digits.
use Rattle.rows.{proofs.Bools.which, proofs.Kit.{inl, inr, ◌≡◌, refl, Bool, true, false, cond, List, [], ◌∷◌, ◌++◌, ℕ, zero, suc, ◌+◌, ◌-◌, ◌*◌, ◌/◌, ◌%◌, ◌^◌, ◌≤◌, ◌<◌, zero-le, pow-suc, arith, ltb, length, length-append, lt-ltb, le-ltb}}
use Rattle.line.specs.Line.{digits_in, decimal}

pub digits_short : (k n : ℕ) → length (digits_in k n) ≤ k
unfolding digits_in
digits_short zero n = zero-le
digits_short (suc k) n =
    let h = digits_short k (n / 10) in
    elim (which (ltb n 10)) [ inl e ↦ rw e (omega arith) | inr e ↦ rw (e, length-append) (omega arith) ]

-- one digit
pub digits_one : (k n : ℕ) → (k ≡ 0 → ⊥) → n < 10 → digits_in k n ≡ (48 + n % 10) ∷ []
unfolding digits_in
digits_one zero n h l = absurd (h refl)
digits_one (suc k) n h l = let z : n % 10 ≡ n = omega arith in rw (lt-ltb n 10 l, z)

-- the last digit, and those before it
pub digits_more : (k n : ℕ) → (k ≡ 0 → ⊥) → 10 ≤ n → digits_in k n ≡ digits_in (k - 1) (n / 10) ++ ((48 + n % 10) ∷ [])
unfolding digits_in
digits_more zero n h l = absurd (h refl)
digits_more (suc k) n h l = let z : suc k - 1 ≡ k = omega arith in rw (le-ltb n 10 l, z)

-- ---- the digits say the number

-- the number that digits say, after those that say `before`
unfoldable pub number_from : ℕ → List ℕ → ℕ
number_from before [] = before
number_from before (d ∷ ds) = number_from (10 * before + (d - 48)) ds

number_more : (before : ℕ) (ds : List ℕ) (d : ℕ) → number_from before (ds ++ (d ∷ [])) ≡ 10 * number_from before ds + (d - 48)
unfolding number_from
number_more before [] d = refl
number_more before (x ∷ ds) d = number_more (10 * before + (x - 48)) ds d

digits_say : (k n : ℕ) → n < 10 ^ k → number_from 0 (digits_in k n) ≡ n
unfolding digits_in number_from
digits_say zero n h = omega arith
digits_say (suc k) n h = go (ltb n 10) refl (digits_say k (n / 10))
  where
    go : (b : Bool) → ltb n 10 ≡ b → (n / 10 < 10 ^ k → number_from 0 (digits_in k (n / 10)) ≡ n / 10)
        → number_from 0 (cond b ((48 + n) ∷ []) (digits_in k (n / 10) ++ ((48 + n % 10) ∷ []))) ≡ n
    go true e rest = omega arith
    go false e rest =
        let p = pow-suc 10 k in
        let r = rest (omega arith) in
        rw (number_more 0 (digits_in k (n / 10)) (48 + n % 10), r) (omega arith)

pub decimal_says : (n : ℕ) → n < 18446744073709551616 → number_from 0 (decimal n) ≡ n
decimal_says n h = digits_say 20 n (omega arith)
