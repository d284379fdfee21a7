-- Multiples of a power of two have its low bits clear, and of no other alignment do the low bits tell the multiples.
use native.Mathlib.Nat.{mod_self, pow-le-pow_right}
use lib.{Arith.bin_ind, Bits.{and_self, and_mask}}
use Rattle.rows.{proofs.Kit.{◌≡◌, refl, ◌∙◌, true, false, ℕ, suc, ◌-◌, ◌/◌, ◌%◌, ◌^◌, ◌≤◌, ◌<◌, not-suc-le-zero, pow-suc, dec_lt, arith, bit_and, and_step, eqb, eqb-true, eq-eqb}, specs.Below.any_below, proofs.Bools.same_test, proofs.BelowLaws.{any_below_lem, some_below}}
use Rattle.addresses.specs.{Addresses.is_multiple, Powers.is_power_of_two}

-- for every power of two the low bits and the remainder give the same answer
pub tests_agree : (k x : ℕ) → eqb (bit_and x (2 ^ k - 1)) 0 ≡ is_multiple x (2 ^ k)
unfolding is_multiple
tests_agree k x = rw (and_mask x k)

-- ---- a power of two is a number that has no bit in common with the one below it

power_clears : (k : ℕ) → bit_and (2 ^ k) (2 ^ k - 1) ≡ 0
power_clears k = and_mask (2 ^ k) k ∙ mod_self (2 ^ k)

abbrev Power : ℕ → Type 0
Power a = (k : ℕ) × (a ≡ 2 ^ k)

clears_power : (a : ℕ) → 0 < a → bit_and a (a - 1) ≡ 0 → Power a
clears_power = bin_ind (λ a. 0 < a → bit_and a (a - 1) ≡ 0 → Power a) (λ l h. absurd (not-suc-le-zero l)) (λ a half l h. go a half l h (dec_lt 0 (a % 2)))
  where
    go : (a : ℕ) → (0 < a / 2 → bit_and (a / 2) (a / 2 - 1) ≡ 0 → Power (a / 2)) → 0 < a → bit_and a (a - 1) ≡ 0 → Dec (0 < a % 2)
        → Power a
    go a half l h (yes odd) =
        let s = and_step a (a - 1) in
        let e : (a - 1) / 2 ≡ a / 2 = omega arith in
        let t : bit_and (a / 2) ((a - 1) / 2) ≡ a / 2 = rw e (and_self (a / 2)) in
        (0, omega arith)
    go a half l h (no even) =
        let s = and_step a (a - 1) in
        let e : (a - 1) / 2 ≡ a / 2 - 1 = omega arith in
        let t : bit_and (a / 2) ((a - 1) / 2) ≡ bit_and (a / 2) (a / 2 - 1) = rw e in
        let (k, q) = half (omega arith) (omega arith) in
        let z = pow-suc 2 k in
        (suc k, omega arith)

power_below : (k : ℕ) → 2 ^ k < 2 ^ 64 → k < 64
power_below k l =
    elim (dec_lt k 64) [
      | yes h ↦ h
      | no h ↦ absurd (let g : 64 ≤ k = omega arith in let t : 0 < 2 = omega arith in let m : 2 ^ 64 ≤ 2 ^ k = pow-le-pow_right t g in omega arith)
    ]

pub zero_no_power : is_power_of_two 0 ≡ false
unfolding is_power_of_two any_below
zero_no_power = refl

-- what the code tests
pub power_test : (a : ℕ) → 0 < a → a < 18446744073709551616 → eqb (bit_and a (a - 1)) 0 ≡ is_power_of_two a
unfolding is_power_of_two
power_test a p l =
    same_test (eqb (bit_and a (a - 1)) 0) (any_below 64 (λ k. eqb a (2 ^ k)))
    (λ h. let (k, e) = clears_power a p (eqb-true (bit_and a (a - 1)) 0 h) in any_below_lem 64 (λ k. eqb a (2 ^ k)) k (power_below k (rw e at l)) (eq-eqb a (2 ^ k) e))
    (λ h. let (k, m, t) = some_below 64 (λ k. eqb a (2 ^ k)) h in let e = eqb-true a (2 ^ k) t in eq-eqb (bit_and a (a - 1)) 0 (rw e (power_clears k)))

-- ---- alignments

-- the low bits are the remainder by a power of two
pub low_remainder : (x a : ℕ) → is_power_of_two a ≡ true → bit_and x (a - 1) ≡ x % a
unfolding is_power_of_two
low_remainder x a h = let (k, m, t) = some_below 64 (λ k. eqb a (2 ^ k)) h in rw (eqb-true a (2 ^ k) t) (and_mask x k)

-- and tell its multiples
pub low_bits : (x a : ℕ) → is_power_of_two a ≡ true → eqb (bit_and x (a - 1)) 0 ≡ is_multiple x a
unfolding is_multiple
low_bits x a h = rw (low_remainder x a h)

-- of any other alignment they do not: the alignment itself is a multiple, and has one of the low bits
pub low_bits_fail : (a : ℕ) → 0 < a → a < 18446744073709551616 → is_power_of_two a ≡ false → (eqb (bit_and a (a - 1)) 0 ≡ false) × (is_multiple a a ≡ true)
unfolding is_multiple
low_bits_fail a p l h = (power_test a p l ∙ h, rw (mod_self a))
