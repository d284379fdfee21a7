-- The highest multiple at or below an address.
use native.Mathlib.Nat.{mod-zero, mod-lt, div-add-mod', mul-mod_left}
use lib.Arith.{digits_mod}
use Rattle.rows.proofs.Kit.{ℕ, ◌+◌, ◌-◌, ◌*◌, ◌/◌, ◌%◌, ◌≤◌, ◌<◌, ◌≡◌, sym, ◌∙◌, true, dec_lt, arith, eqb-true, eq-eqb}
use Rattle.addresses.specs.Addresses.{is_multiple}
use Rattle.base_ranges.specs.Nearest.{multiple_to}

pub to_multiple : (x a : ℕ) → is_multiple (multiple_to x a) a ≡ true
unfolding is_multiple multiple_to
to_multiple x a =
    let e : x / a * a + x % a ≡ x = div-add-mod' x a in
    let t : x - x % a ≡ x / a * a = omega arith in
    rw t (eq-eqb (x / a * a % a) 0 (mul-mod_left (x / a) a))

pub to_below : (x a : ℕ) → multiple_to x a ≤ x
unfolding multiple_to
to_below x a = omega arith

-- no multiple at or below x is higher
pub to_highest : (x a m : ℕ) → m ≤ x → is_multiple m a ≡ true → m ≤ multiple_to x a
unfolding is_multiple multiple_to
to_highest x a m l h = go (dec_lt 0 a)
  where
    go : Dec (0 < a) → m ≤ x - x % a
    go (no n) =
        let y : a ≡ 0 = omega arith in
        let v : m % 0 ≡ 0 = rw y at (eqb-true (m % a) 0 h) in
        let d = mod-zero m in
        omega arith
    go (yes p) = within (dec_lt (x - x % a) m)
      where
        within : Dec (x - x % a < m) → m ≤ x - x % a
        within (no n) = omega arith
        within (yes n) =
            let q : ℕ = x / a in
            let e : q * a + x % a ≡ x = div-add-mod' x a in
            let k : x % a < a = mod-lt x p in
            let s : ℕ = m - q * a in
            let y : q * a + s ≡ m = omega arith in
            let d : (q * a + s) % a ≡ s = digits_mod q (omega arith) in
            let v : m % a ≡ 0 = eqb-true (m % a) 0 h in
            let w : s ≡ 0 = sym d ∙ rw y v in
            omega arith
