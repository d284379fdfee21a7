-- Laws of masks.
use Prim.Native.Nat.{min, max}
use native.{Mathlib.Nat.{two-pow-succ, add-sub_cancel, zero-mul, one-mul, div-one, div-eq_of_lt, div-div-eq-div-mul, zero-div, div_self, eq-zero-or-pos}, Mathlib.Numerals.one-add}
use lib.{Arith.bin_ind, Bits.{and_comm, and_self, and_zero_r, or_step, and_le_l, and_le_r, or_shr, or_add_and, and_high}, Pow.{pow_pos, pow_mono, shl_exact}, Seq.take-add}
use Rattle.rows.{proofs.Kit.{◌≡◌, refl, sym, ap, ap₂, ◌∙◌, Bool, true, false, cond, not, ◌&&◌, ◌||◌, false≢true, List, [], ◌∷◌, ◌++◌, ◌≢◌, ◌↔◌, ◌⊎◌, inl, inr, Option, none, some, ℕ, zero, suc, ◌+◌, ◌-◌, ◌*◌, ◌/◌, ◌%◌, ◌^◌, ◌≤◌, ◌<◌, pow-succ', dec_lt, add-one, arith, bit_and, bit_or, and_step, and_shr, eqb, length, take, get_or, take-suc, eqb-true, eqb-false, eq-eqb, ne_eqb, not-true, not-false}, specs.Below.{or_later, first_below}, proofs.Bools.{not_both, eqb_same, cond_map}, proofs.BelowLaws.{first_none, first_at}}
use Rattle.masks.specs.{Masks.{shares, matches, is_one_bit, has_bit, bits_below, first_mask}, Without.{without, lowest_bit}}
use lib.Count as Count

-- ---- shares

pub shares_says : (m n : ℕ) → (shares m n ≡ true) ↔ (bit_and m n ≢ 0)
unfolding shares
shares_says m n = (λ h. eqb-false (bit_and m n) 0 (not-true (eqb (bit_and m n) 0) h), λ h. rw (ne_eqb (bit_and m n) 0 h))

pub shares_sym : (m n : ℕ) → shares m n ≡ shares n m
unfolding shares
shares_sym m n = rw (and_comm m n)

-- the mask 0 shares no bit
pub shares_zero_left : (m : ℕ) → shares 0 m ≡ false
unfolding shares
shares_zero_left m = refl

and_or : (m a b : ℕ) → bit_and (bit_or a b) m ≡ bit_or (bit_and a m) (bit_and b m)
and_or = bin_ind (λ (m : ℕ). (a b : ℕ) → bit_and (bit_or a b) m ≡ bit_or (bit_and a m) (bit_and b m)) (λ a b. simp and_zero_r) step
  where
    step : (m : ℕ) → ((a b : ℕ) → bit_and (bit_or a b) (m / 2) ≡ bit_or (bit_and a (m / 2)) (bit_and b (m / 2)))
        → (a b : ℕ) → bit_and (bit_or a b) m ≡ bit_or (bit_and a m) (bit_and b m)
    step m ih a b =
        let high : bit_and (bit_or a b / 2) (m / 2) ≡ bit_or (bit_and a m / 2) (bit_and b m / 2) =
        cc (or_shr a b 1, ih (a / 2) (b / 2), and_shr a m 1, and_shr b m 1) in
        let low : min (bit_or a b % 2) (m % 2) ≡ max (bit_and a m % 2) (bit_and b m % 2) = omega (arith, or_step a b, and_step a m, and_step b m) in
        cc (and_step (bit_or a b) m, or_step (bit_and a m) (bit_and b m), high, low)

pub or_nonzero : (x y : ℕ) → not (eqb (bit_or x y) 0) ≡ (not (eqb x 0) || not (eqb y 0))
or_nonzero zero y = refl
or_nonzero (suc x) y =
    rw (ne_eqb (bit_or (suc x) y) 0 (λ e. omega (arith, or_add_and (suc x) y, and_le_r (suc x) y)), ne_eqb (suc x) 0 (λ e. omega arith))

pub shares_or : (a b m : ℕ) → shares (bit_or a b) m ≡ (shares a m || shares b m)
unfolding shares
shares_or a b m = rw (and_or m a b) (or_nonzero (bit_and a m) (bit_and b m))

-- two masks that hold every bit of a nonzero mask share a bit
low_bit : (q m n x y z : ℕ) → q / 2 ≡ 0 → q ≢ 0 → q ≡ x * 2 + min (m % 2) (q % 2) → q ≡ y * 2 + min (n % 2) (q % 2) → z * 2 + min (m % 2) (n % 2) ≢ 0
low_bit q m n x y z h k e f = omega arith

half_bits : (q m x : ℕ) → q ≡ x * 2 + min (m % 2) (q % 2) → x ≡ q / 2
half_bits q m x e = omega arith

zero_half : (z r : ℕ) → z * 2 + r ≡ 0 → z ≡ 0
zero_half z r h = omega arith

match_share : (q m n : ℕ) → q ≢ 0 → bit_and m q ≡ q → bit_and n q ≡ q → bit_and m n ≢ 0
match_share = bin_ind (λ (q : ℕ). (m n : ℕ) → q ≢ 0 → bit_and m q ≡ q → bit_and n q ≡ q → bit_and m n ≢ 0)
    (λ m n k e f. absurd (k refl)) step
  where
    step : (q : ℕ) → ((m n : ℕ) → q / 2 ≢ 0 → bit_and m (q / 2) ≡ q / 2 → bit_and n (q / 2) ≡ q / 2 → bit_and m n ≢ 0)
        → (m n : ℕ) → q ≢ 0 → bit_and m q ≡ q → bit_and n q ≡ q → bit_and m n ≢ 0
    step q ih m n k e f w =
        let em : q ≡ bit_and (m / 2) (q / 2) * 2 + min (m % 2) (q % 2) = sym e ∙ and_step m q in
        let en : q ≡ bit_and (n / 2) (q / 2) * 2 + min (n % 2) (q % 2) = sym f ∙ and_step n q in
        let zero = sym (and_step m n) ∙ w in
        elim (eq-zero-or-pos (q / 2)) [
          | inl z ↦ low_bit q m n _ _ (bit_and (m / 2) (n / 2)) z k em en zero
          | inr p ↦ ih (m / 2) (n / 2) (omega arith) (half_bits q m _ em) (half_bits q n _ en) (zero_half _ _ zero)
        ]

pub matches_shares : (given m n : ℕ) → given ≢ 0 → matches given m ≡ true → matches given n ≡ true → shares m n ≡ true
unfolding matches
matches_shares q m n k hm hn = (shares_says m n).1 (match_share q m n k (eqb-true (bit_and m q) q hm) (eqb-true (bit_and n q) q hn))

-- ---- bits

-- 1 << k
pub one_bit : (k : ℕ) → k < 32 → 1 * 2 ^ k % 4294967296 ≡ 2 ^ k
one_bit k l = shl_exact 1 k 32 (omega arith) (omega arith) ∙ one-mul (2 ^ k)

single : (m k : ℕ) → bit_and m (2 ^ k) ≡ (m / 2 ^ k % 2) * 2 ^ k
single m k = ap (bit_and m) (sym (rw (one-add, two-pow-succ) (add-sub_cancel (2 ^ k) (2 ^ k)))) ∙ and_high m 1 k

digit : (b p : ℕ) → b < 2 → 0 < p → not (eqb (b * p) 0) ≡ eqb b 1
digit zero p l h = rw zero-mul
digit (suc zero) p l h = rw (one-mul, ne_eqb p 0 (λ e. omega arith))
digit (suc (suc b)) p l h = absurd (omega arith)

-- bit k is set where the digit k is 1
pub has_bit_lem : (m k : ℕ) → has_bit m k ≡ eqb (m / 2 ^ k % 2) 1
unfolding has_bit shares
has_bit_lem m k = rw single (digit (m / 2 ^ k % 2) (2 ^ k) (omega arith) (pow_pos k))

has_digit : (m k : ℕ) → has_bit m k ≡ true → m / 2 ^ k % 2 ≡ 1
has_digit m k h = eqb-true (m / 2 ^ k % 2) 1 (sym (has_bit_lem m k) ∙ h)

half_bit : (m k : ℕ) → has_bit (m / 2) k ≡ has_bit m (suc k)
half_bit m k = rw (has_bit_lem (m / 2) k, has_bit_lem m (suc k), pow-succ', div-div-eq-div-mul)

last_bit : (m : ℕ) → has_bit m 0 ≡ eqb (m % 2) 1
last_bit m = rw (has_bit_lem, div-one)

-- a mask of w bits has no bit from w on
bit_below : (w m k : ℕ) → m < 2 ^ w → has_bit m k ≡ true → k < w
bit_below w m k l h =
    elim (dec_lt k w) [
      | yes b ↦ b
      | no n ↦
          let most : 2 ^ w ≤ 2 ^ k = pow_mono (omega arith) in
          let none : m / 2 ^ k ≡ 0 = div-eq_of_lt (omega arith) in
          let d : m / 2 ^ k % 2 ≡ 1 = has_digit m k h in
          absurd (omega arith)
    ]

-- masks that have bit k
pub bit_shares : (m n k : ℕ) → has_bit m k ≡ true → has_bit n k ≡ true → shares m n ≡ true
bit_shares m n k h g =
    (shares_says m n).1 (λ e.
    let high : bit_and (m / 2 ^ k) (n / 2 ^ k) ≡ 0 = sym (and_shr m n k) ∙ rw e (zero-div (2 ^ k)) in
    omega (arith, and_step (m / 2 ^ k) (n / 2 ^ k), has_digit m k h, has_digit n k g))

shares_bit : (w m n : ℕ) → m < 2 ^ w → shares m n ≡ true → (k : ℕ) × (k < w) × (has_bit m k ≡ true) × (has_bit n k ≡ true)
shares_bit zero m n l h =
    let e : m ≡ 0 = omega arith in
    not_both (rw e (shares_zero_left n)) h
shares_bit (suc w) m n l h = go (shares_bit w (m / 2) (n / 2) (omega arith)) (eq-zero-or-pos (min (m % 2) (n % 2)))
  where
    go : (shares (m / 2) (n / 2) ≡ true → (k : ℕ) × (k < w) × (has_bit (m / 2) k ≡ true) × (has_bit (n / 2) k ≡ true))
        → (min (m % 2) (n % 2) ≡ 0) ⊎ (0 < min (m % 2) (n % 2)) → (k : ℕ) × (k < suc w) × (has_bit m k ≡ true) × (has_bit n k ≡ true)
    go rest (inl z) =
        let (k, b, f, g) = rest ((shares_says (m / 2) (n / 2)).1 (λ e. (shares_says m n).0 h (omega (arith, and_step m n)))) in
        (suc k, omega arith, sym (half_bit m k) ∙ f, sym (half_bit n k) ∙ g)
    go rest (inr p) = (0, omega arith, rw has_bit_lem (eq-eqb (m / 1 % 2) 1 (omega arith)), rw has_bit_lem (eq-eqb (n / 1 % 2) 1 (omega arith)))

-- a mask of w bits shares a bit with another exactly where both have it
pub shares_bits : (w m n : ℕ) → m < 2 ^ w → (shares m n ≡ true) ↔ ((k : ℕ) × (k < w) × (has_bit m k ≡ true) × (has_bit n k ≡ true))
shares_bits w m n l = (shares_bit w m n l, λ (k, b, f, g). bit_shares m n k f g)

-- a mask that holds every bit of another has each of its bits
match_bit : (given m k : ℕ) → bit_and m given ≡ given → has_bit given k ≡ true → has_bit m k ≡ true
match_bit given m k e h =
    let high : bit_and (m / 2 ^ k) (given / 2 ^ k) ≡ given / 2 ^ k = sym (and_shr m given k) ∙ ap (λ (x : ℕ). x / 2 ^ k) e in
    rw has_bit_lem (eq-eqb (m / 2 ^ k % 2) 1 (omega (arith, and_step (m / 2 ^ k) (given / 2 ^ k), has_digit given k h)))

bits_match : (w given m : ℕ) → given < 2 ^ w → ((k : ℕ) → k < w → has_bit given k ≡ true → has_bit m k ≡ true) → bit_and m given ≡ given
bits_match zero given m l h = let e : given ≡ 0 = omega arith in rw e (and_zero_r m)
bits_match (suc w) given m l h =
    let high = bits_match w (given / 2) (m / 2) (omega arith) (λ k b g. half_bit m k ∙ h (suc k) (omega arith) (sym (half_bit given k) ∙ g)) in
    let s = and_step m given in
    elim (dec_lt 0 (given % 2)) [
      | yes odd ↦ let d = has_digit m 0 (h 0 (omega arith) (rw has_bit_lem (eq-eqb (given / 1 % 2) 1 (omega arith)))) in omega arith
      | no even ↦ omega arith
    ]

-- a mask holds every bit of another, of w bits, exactly where it has each of them
pub matches_bits : (w given m : ℕ) → given < 2 ^ w → (matches given m ≡ true) ↔ ((k : ℕ) → k < w → has_bit given k ≡ true → has_bit m k ≡ true)
unfolding matches
matches_bits w given m l = (
  λ h k b g. match_bit given m k (eqb-true (bit_and m given) given h) g,
  λ h. eq-eqb (bit_and m given) given (bits_match w given m l h),
)

-- ---- without

without_half : (m held : ℕ) → without m held / 2 ≡ without (m / 2) (held / 2)
unfolding without
without_half m held = omega (arith, and_step m held, and_le_l (m / 2) (held / 2))

-- the last digit of a difference without a borrow
no_borrow : (q r x d : ℕ) → x ≤ q → d ≤ r → r < 2 → (q * 2 + r - (x * 2 + d)) % 2 ≡ r - d
no_borrow q r x d l h b = omega arith

without_digit : (b c : ℕ) → b < 2 → c < 2 → eqb (b - min b c) 1 ≡ (eqb b 1 && not (eqb c 1))
without_digit zero zero l h = refl
without_digit zero (suc zero) l h = refl
without_digit (suc zero) zero l h = refl
without_digit (suc zero) (suc zero) l h = refl
without_digit zero (suc (suc c)) l h = absurd (omega arith)
without_digit (suc zero) (suc (suc c)) l h = absurd (omega arith)
without_digit (suc (suc b)) c l h = absurd (omega arith)

without_last : (m held : ℕ) → without m held % 2 ≡ m % 2 - min (m % 2) (held % 2)
unfolding without
without_last m held =
    let whole : m ≡ m / 2 * 2 + m % 2 = omega arith in
    ap₂ (λ (x y : ℕ). (x - y) % 2) whole (and_step m held)
    ∙ no_borrow (m / 2) (m % 2) (bit_and (m / 2) (held / 2)) (min (m % 2) (held % 2)) (and_le_l (m / 2) (held / 2)) (omega arith) (omega arith)

-- bit k is among them where the one mask has it and the other has not
pub without_bit : (m held k : ℕ) → has_bit (without m held) k ≡ (has_bit m k && not (has_bit held k))
without_bit m held zero =
    rw (last_bit (without m held), last_bit m, last_bit held, without_last) (without_digit (m % 2) (held % 2) (omega arith) (omega arith))
without_bit m held (suc k) = sym (half_bit (without m held) k) ∙ rw (without_half, without_bit (m / 2) (held / 2) k, half_bit m k, half_bit held k)

-- none is left exactly where the other holds them all
pub without_matches : (m held : ℕ) → eqb (without m held) 0 ≡ matches m held
unfolding without matches
without_matches m held =
    let l = and_le_l m held in let e = and_comm held m in
    eqb_same (m - bit_and m held) 0 (bit_and held m) m (λ h. omega arith) (λ h. omega arith)

absent_digits : (m c : ℕ) → m < 2 → c < 2 → min m (1 - c) ≡ m - min m c
absent_digits m c l h = omega arith

-- by the bits that the other has not, of w
pub and_absent : (w m held : ℕ) → m < 2 ^ w → held < 2 ^ w → bit_and m (2 ^ w - 1 - held) ≡ without m held
unfolding without
and_absent zero m held l h = let e : m ≡ 0 = omega arith in rw e
and_absent (suc w) m held l h =
    let two = two-pow-succ w in
    let high : (2 ^ suc w - 1 - held) / 2 ≡ 2 ^ w - 1 - held / 2 = omega arith in
    let low : (2 ^ suc w - 1 - held) % 2 ≡ 1 - held % 2 = omega arith in
    let rest : bit_and (m / 2) (2 ^ w - 1 - held / 2) ≡ without m held / 2 = and_absent w (m / 2) (held / 2) (omega arith) (omega arith) ∙ sym (without_half m held) in
    let last : min (m % 2) (1 - held % 2) ≡ without m held % 2 = absent_digits (m % 2) (held % 2) (omega arith) (omega arith) ∙ sym (without_last m held) in
    and_step m (2 ^ suc w - 1 - held) ∙ rw (high, low, rest, last) (whole (without m held))
  where
    whole : (x : ℕ) → x / 2 * 2 + x % 2 ≡ x
    whole x = omega arith

-- the lowest bit: one less has every other
lowest_says : (x : ℕ) → 0 < x → (k : ℕ) × (x - bit_and x (x - 1) ≡ 2 ^ k) × (has_bit x k ≡ true) × ((j : ℕ) → j < k → has_bit x j ≡ false)
lowest_says = bin_ind (λ (x : ℕ). 0 < x → (k : ℕ) × (x - bit_and x (x - 1) ≡ 2 ^ k) × (has_bit x k ≡ true) × ((j : ℕ) → j < k → has_bit x j ≡ false))
    (λ l. absurd (omega arith)) (λ x half l.
    let s = and_step x (x - 1) in
    elim (dec_lt 0 (x % 2)) [
      | yes odd ↦
          let e : (x - 1) / 2 ≡ x / 2 = omega arith in
          let t : bit_and (x / 2) ((x - 1) / 2) ≡ x / 2 = rw e (and_self (x / 2)) in
          (0, omega arith, rw has_bit_lem (eq-eqb (x / 1 % 2) 1 (omega arith)), λ j b. absurd (omega arith))
      | no even ↦
          let e : (x - 1) / 2 ≡ x / 2 - 1 = omega arith in
          let t : bit_and (x / 2) ((x - 1) / 2) ≡ bit_and (x / 2) (x / 2 - 1) = rw e in
          let (k, p, b, lower) = half (omega arith) in
          (suc k, omega (arith, two-pow-succ k), sym (half_bit x k) ∙ b, even_lower x k (omega arith) lower)
    ])
  where
    even_lower : (x k : ℕ) → x % 2 ≡ 0 → ((j : ℕ) → j < k → has_bit (x / 2) j ≡ false) → (j : ℕ) → j < suc k → has_bit x j ≡ false
    even_lower x k e h zero l = rw has_bit_lem (ne_eqb (x / 1 % 2) 1 (λ q. omega arith))
    even_lower x k e h (suc j) l = sym (half_bit x j) ∙ h j (omega arith)

pub bits_more : (n m : ℕ) → bits_below (n + 1) m ≡ bits_below n m ++ cond (has_bit m n) (2 ^ n ∷ []) []
unfolding bits_below
bits_more n m = rw add-one

-- ---- masks of one bit

-- a number with no digit set
ones_none : (m : ℕ) → Count.ones m ≡ 0 → m ≡ 0
ones_none = bin_ind (λ (m : ℕ). Count.ones m ≡ 0 → m ≡ 0) (λ _. refl) (λ m half h. let s = Count.ones_step m in let z = half (omega arith) in omega arith)

-- m and m - 1 share no bit: one bit of m is set
clears : (m : ℕ) → 0 < m → (bit_and m (m - 1) ≡ 0) ↔ (Count.ones m ≡ 1)
unfolding Count.ones
clears = bin_ind (λ (m : ℕ). 0 < m → (bit_and m (m - 1) ≡ 0) ↔ (Count.ones m ≡ 1)) (λ l. absurd (omega arith)) (λ m half l.
    let s = and_step m (m - 1) in
    let o = Count.ones_step m in
    elim (dec_lt 0 (m % 2)) [
      | yes odd ↦
          let e : (m - 1) / 2 ≡ m / 2 = omega arith in
          let t : bit_and (m / 2) ((m - 1) / 2) ≡ m / 2 = rw e (and_self (m / 2)) in (
            λ h. let z : m / 2 ≡ 0 = omega arith in let n : Count.ones (m / 2) ≡ 0 = rw z in omega arith,
            λ h. let z : m / 2 ≡ 0 = ones_none (m / 2) (omega arith) in omega arith,
          )
      | no even ↦
          let e : (m - 1) / 2 ≡ m / 2 - 1 = omega arith in
          let t : bit_and (m / 2) ((m - 1) / 2) ≡ bit_and (m / 2) (m / 2 - 1) = rw e in
          let f = half (omega arith) in (λ h. omega (arith, f.0 (omega arith)), λ h. omega (arith, f.1 (omega arith)))
    ])

pub clears_one_bit : (m : ℕ) → 0 < m → eqb (bit_and m (m - 1)) 0 ≡ is_one_bit m
unfolding is_one_bit
clears_one_bit m l = eqb_same (bit_and m (m - 1)) 0 (Count.ones m) 1 (clears m l).0 (clears m l).1

alone : (k m : ℕ) → Count.ones m ≡ 1 → has_bit m k ≡ true → m ≡ 2 ^ k
unfolding has_bit
alone zero m o h = let s = Count.ones_step m in let d = has_digit m 0 h in let z = ones_none (m / 2) (omega arith) in omega arith
alone (suc k) m o h =
    let high = half_bit m k ∙ h in
    elim (eq-zero-or-pos (Count.ones (m / 2))) [
      | inl z ↦ let e = ones_none (m / 2) z in not_both (shares_zero_left (2 ^ k)) (rw e at high)
      | inr p ↦ let s = Count.ones_step m in omega (arith, alone k (m / 2) (omega arith) high, two-pow-succ k)
    ]

-- a mask of one bit that has bit k is that bit
pub one_bit_alone : (k m : ℕ) → is_one_bit m ≡ true → has_bit m k ≡ true → m ≡ 2 ^ k
unfolding is_one_bit
one_bit_alone k m o h = alone k m (eqb-true (Count.ones m) 1 o) h

-- the mask that is bit k has it
pub bit_set : (k : ℕ) → has_bit (2 ^ k) k ≡ true
bit_set k = rw (has_bit_lem, div_self (pow_pos k))

-- ---- first_mask

-- the bit at an index that was looked for, as a mask
abbrev pub bit_at : Option ℕ → Option ℕ
bit_at none = none
bit_at (some k) = some (2 ^ k)

bit_at_or : (a b : Option ℕ) → bit_at (or_later a b) ≡ or_later (bit_at a) (bit_at b)
bit_at_or none b = refl
bit_at_or (some k) b = refl

bit_at_none : (o : Option ℕ) → bit_at o ≡ none → o ≡ none
bit_at_none none h = refl
bit_at_none (some k) h = absurd (false≢true (cc))

-- a test that fails, or whose first part fails
fails_where : (b c : Bool) → (b && c) ≡ false → b ≡ true → c ≡ false
fails_where true c h g = h
fails_where false c h g = not_both refl g

where_fails : (b c : Bool) → (b ≡ true → c ≡ false) → (b && c) ≡ false
where_fails true c h = h refl
where_fails false c h = refl

module _ (p : ℕ → Bool) where
  pub first_mask_append : (xs ys : List ℕ) → first_mask p (xs ++ ys) ≡ or_later (first_mask p xs) (first_mask p ys)
  unfolding first_mask
  first_mask_append [] ys = refl
  first_mask_append (x ∷ xs) ys =
      rw (first_mask_append xs ys) (sym (cond_map (λ (o : Option ℕ). or_later o (first_mask p ys)) (p x) (some x) (first_mask p xs)))

  pub first_mask_same : (q : ℕ → Bool) → ((m : ℕ) → p m ≡ q m) → (ms : List ℕ) → first_mask p ms ≡ first_mask q ms
  unfolding first_mask
  first_mask_same q h [] = refl
  first_mask_same q h (m ∷ ms) = rw (h m, first_mask_same q h ms)

  -- among the bits of a mask: the lowest set bit that passes
  pub first_mask_bits : (n m : ℕ) → first_mask p (bits_below n m) ≡ bit_at (first_below n (λ k. has_bit m k && p (2 ^ k)))
  unfolding first_mask bits_below first_below
  first_mask_bits zero m = refl
  first_mask_bits (suc n) m =
      rw (first_mask_append (bits_below n m) (cond (has_bit m n) (2 ^ n ∷ []) []), first_mask_bits n m, one (has_bit m n) (p (2 ^ n)) refl)
      (sym (bit_at_or (first_below n (λ k. has_bit m k && p (2 ^ k))) (cond (has_bit m n && p (2 ^ n)) (some n) none)))
    where
      one : (b c : Bool) → p (2 ^ n) ≡ c → first_mask p (cond b (2 ^ n ∷ []) []) ≡ bit_at (cond (b && c) (some n) none)
      one true true e = rw e
      one true false e = rw e
      one false c e = refl

  pub first_mask_none : (n m : ℕ) → (first_mask p (bits_below n m) ≡ none) ↔ ((k : ℕ) → k < n → has_bit m k ≡ true → p (2 ^ k) ≡ false)
  first_mask_none n m =
      let q : ℕ → Bool = λ k. has_bit m k && p (2 ^ k) in
      let e = first_mask_bits n m in
      let f = first_none n q in (
        λ h k l g. fails_where (has_bit m k) (p (2 ^ k)) (f.0 (bit_at_none (first_below n q) (sym e ∙ h)) k l) g,
        λ h. e ∙ ap bit_at (f.1 (λ k l. where_fails (has_bit m k) (p (2 ^ k)) (h k l))),
      )

  -- one mask more
  pub first_mask_more : (ms : List ℕ) (j : ℕ) → j < length ms
      → first_mask p (take (j + 1) ms) ≡ or_later (first_mask p (take j ms)) (cond (p (get_or ms j 0)) (some (get_or ms j 0)) none)
  unfolding first_mask
  first_mask_more ms j l = rw (add-one, take-suc ms j 0, first_mask_append)

  -- mask j passes, and none before it
  pub first_mask_stop : (ms : List ℕ) (n j : ℕ) → j < n → n ≤ length ms → first_mask p (take j ms) ≡ none → p (get_or ms j 0) ≡ true
      → first_mask p (take n ms) ≡ some (get_or ms j 0)
  first_mask_stop ms n j l h e g =
      let split : n ≡ (j + 1) + (n - (j + 1)) = omega arith in
      let found : first_mask p (take (j + 1) ms) ≡ some (get_or ms j 0) = rw (first_mask_more ms j (omega arith), e, g) in
      rw (split, take-add (j + 1) (n - (j + 1)) ms, first_mask_append, found)

-- no bit of the one mask is without the other exactly where the other holds them all
pub matches_none : (w given m : ℕ) → given < 2 ^ w → (matches given m ≡ true) ↔ (first_mask (λ bit. not (shares m bit)) (bits_below w given) ≡ none)
unfolding has_bit
matches_none w given m l =
    let f = first_mask_none (λ bit. not (shares m bit)) w given in (
      λ h. f.1 (λ k b g. rw ((matches_bits w given m l).0 h k b g)),
      λ h. (matches_bits w given m l).1 (λ k b g. not-false (shares m (2 ^ k)) (f.0 h k b g)),
    )

-- the lowest bit of the one mask that the other has not, where the one has w bits
pub lowest_first : (w m held : ℕ) → m < 2 ^ w
    → first_mask (λ bit. not (shares held bit)) (bits_below w m) ≡ lowest_bit (without m held)
unfolding without has_bit lowest_bit
lowest_first w m held l = first_mask_bits (λ bit. not (shares held bit)) w m ∙ go (eq-zero-or-pos x)
  where
    x : ℕ
    x = without m held

    lacks : ℕ → Bool
    lacks k = has_bit m k && not (shares held (2 ^ k))

    go : (x ≡ 0) ⊎ (0 < x) → bit_at (first_below w lacks) ≡ lowest_bit x
    -- no bit is left
    go (inl z) = rw (z, (first_none w lacks).1 (λ k b. sym (without_bit m held k) ∙ rw (z, has_bit_lem, zero-div)))
    go (inr p) =
        let (k, q, b, lower) = lowest_says x p in
        let here = bit_below w x k (omega (arith, and_le_l m held)) b in
        rw (ne_eqb x 0 (λ e. omega arith), q, first_at w lacks k here (λ j h. sym (without_bit m held j) ∙ lower j h) (sym (without_bit m held k) ∙ b))
