-- Laws of lists one after the other and of the bytes of a number.
use native.Mathlib.Nat.{mul_comm, mul_assoc, mod-eq_of_lt, div-eq_of_lt, add-mul-div_left, add-mul-mod_self_left}
use lib.Arith.{digits_lt, mod-mul}
use lib.Pow.{pow-add}
use lib.Seq.{take_at, drop_at, take-add, drop-drop, get_or-append-add, get_or-drop}
use Rattle.rows.{proofs.Kit.{◌≡◌, refl, sym, ap, ◌∙◌, ℕ, zero, suc, ◌+◌, ◌-◌, ◌*◌, ◌/◌, ◌%◌, ◌^◌, ◌<◌, ◌≤◌, add-zero, zero-add, add-suc, not-suc-le-zero, pow-succ', arith, inl, inr, List, [], ◌∷◌, ◌++◌, append_assoc, append-nil, length, take, drop, length-append, length-drop, get_or-take, take-suc}, specs.Below.sum_below, proofs.BelowLaws.{top, sum_cong}}
use Rattle.le.specs.{Le.{byte_at, le_at, byte_of}, Bytes.{IsBytes, concat_below, le_bytes}}

-- a part of a list, by what stands before it
pub part_at : (s p q r : List ℕ) (n m : ℕ) → s ≡ p ++ (q ++ r) → length p ≡ n → length q ≡ m → take m (drop n s) ≡ q
part_at s p q r n m e a b = rw (e, drop_at p (q ++ r) n a, take_at q r m b)

-- ---- lists one after the other

pub concat_length : (n : ℕ) (f : ℕ → List ℕ) → length (concat_below n f) ≡ sum_below n (λ k. length (f k))
unfolding concat_below sum_below
concat_length zero f = refl
concat_length (suc n) f = rw (length-append, concat_length n f)

concat_split : (n m : ℕ) (f : ℕ → List ℕ) → concat_below (n + m) f ≡ concat_below n f ++ concat_below m (λ i. f (n + i))
unfolding concat_below
concat_split n zero f = rw (add-zero n, append-nil)
concat_split n (suc m) f = rw (add-suc n m, concat_split n m f) (append_assoc (concat_below n f) _ _)

-- list k, with what stands before and behind it
pub concat_at : (n : ℕ) (f : ℕ → List ℕ) (k : ℕ) → k < n
    → concat_below n f ≡ concat_below k f ++ (f k ++ concat_below (n - suc k) (λ i. f (suc k + i)))
unfolding concat_below
concat_at n f k l =
    let z : n ≡ suc k + (n - suc k) = omega arith in
    ap (λ (m : ℕ). concat_below m f) z ∙ concat_split (suc k) (n - suc k) f ∙ append_assoc (concat_below k f) (f k) _

pub concat_same : (n : ℕ) (f g : ℕ → List ℕ) → ((k : ℕ) → k < n → f k ≡ g k) → concat_below n f ≡ concat_below n g
unfolding concat_below
concat_same zero f g h = refl
concat_same (suc n) f g h = rw (concat_same n f g (λ k l. h k (omega arith)), h n (omega arith))

pub sum_alike : (n c : ℕ) → sum_below n (λ _. c) ≡ c * n
unfolding sum_below
sum_alike zero c = omega arith
sum_alike (suc n) c = let e = sum_alike n c in omega arith

-- ---- the bytes of a number

power_pos : (w : ℕ) → 0 < 256 ^ w
power_pos zero = omega arith
power_pos (suc w) = let h = power_pos w in rw (pow-succ' 256 w) (omega arith)

-- they say it
pub bytes_say : (w v : ℕ) → sum_below w (λ k. 256 ^ k * byte_of k v) ≡ v % 256 ^ w
unfolding sum_below byte_of
bytes_say zero v = omega arith
bytes_say (suc w) v =
    rw (bytes_say w v, pow-succ', mod-mul v {m = 256} {c = 256 ^ w} (omega arith) (power_pos w), mul_comm (256 ^ w) (v / 256 ^ w % 256)) (omega arith)

pub le_length : (w v : ℕ) → length (le_bytes w v) ≡ w
unfolding le_bytes
le_length w v = concat_length w _ ∙ sum_alike w 1 ∙ omega arith

le_byte : (w v k : ℕ) → k < w → byte_at (le_bytes w v) k ≡ byte_of k v
unfolding le_bytes
le_byte w v k l =
    let one : (i : ℕ) → List ℕ = λ i. byte_of i v ∷ [] in
    let len : length (concat_below k one) ≡ k = concat_length k one ∙ sum_alike k 1 ∙ omega arith in
    let rest : List ℕ = concat_below (w - suc k) (λ i. byte_of (suc k + i) v ∷ []) in
    let z : k + 0 ≡ k = omega arith in
    rw (concat_at w one k l) (rw (len, z) at (get_or-append-add (concat_below k one) (byte_of k v ∷ rest) 0 0))

-- the number that is read where they stand
pub le_of_bytes : (w v at : ℕ) (s : List ℕ) → v < 256 ^ w → take w (drop at s) ≡ le_bytes w v → le_at w s at ≡ v
unfolding le_at
le_of_bytes w v at s b e = sum_cong w _ _ (λ k l. ap (λ x. 256 ^ k * x) (byte k l)) ∙ bytes_say w v ∙ mod-eq_of_lt b
  where
    byte : (k : ℕ) → k < w → byte_at s (at + k) ≡ byte_of k v
    byte k l = sym (get_or-drop at s k 0) ∙ sym (get_or-take w (drop at s) k 0 l) ∙ ap (λ (x : List ℕ). byte_at x k) e ∙ le_byte w v k l

-- ---- bytes that were read, and the bytes of the number that they say

sum_small : (w : ℕ) (b : ℕ → ℕ) → ((k : ℕ) → b k < 256) → sum_below w (λ k. 256 ^ k * b k) < 256 ^ w
unfolding sum_below
sum_small zero b h = omega arith
sum_small (suc w) b h =
    let l = digits_lt {q = b w} {m = 256} {c = 256 ^ w} (h w) (sum_small w b h) in
    rw (pow-succ' 256 w, mul_comm (256 ^ w) (b w)) (omega arith)

byte_said : (w : ℕ) (b : ℕ → ℕ) → ((k : ℕ) → b k < 256) → (k : ℕ) → k < w → byte_of k (sum_below w (λ k. 256 ^ k * b k)) ≡ b k
unfolding sum_below byte_of
byte_said zero b h k l = absurd (not-suc-le-zero l)
byte_said (suc w) b h k l =
    elim (top l) [
      | inl e ↦
          rw (
            e,
            add-mul-div_left (sum_below w (λ k. 256 ^ k * b k)) (b w) (power_pos w),
            div-eq_of_lt (sum_small w b h),
            zero-add,
            mod-eq_of_lt (h w),
          )
      | inr m ↦
          let p : 256 ^ w * b w ≡ 256 ^ k * (256 * (256 ^ (w - suc k) * b w)) = higher k w (b w) m in
          rw (
            p,
            add-mul-div_left (sum_below w (λ k. 256 ^ k * b k)) (256 * (256 ^ (w - suc k) * b w)) (power_pos k),
            add-mul-mod_self_left (sum_below w (λ k. 256 ^ k * b k) / 256 ^ k) 256 (256 ^ (w - suc k) * b w),
          ) (byte_said w b h k m)
    ]
  where
    higher : (k w b : ℕ) → k < w → 256 ^ w * b ≡ 256 ^ k * (256 * (256 ^ (w - suc k) * b))
    higher k w b m =
        let z : w ≡ k + suc (w - suc k) = omega arith in
        ap (λ n. 256 ^ n * b) z ∙ rw (pow-add 256 k (suc (w - suc k)), pow-succ' 256 (w - suc k), mul_assoc, mul_assoc)

single : (w : ℕ) (x : List ℕ) (b : ℕ → ℕ) → w ≤ length x → ((k : ℕ) → k < w → b k ≡ byte_at x k) → concat_below w (λ k. b k ∷ []) ≡ take w x
unfolding concat_below
single zero x b l h = refl
single (suc w) x b l h = rw (single w x b (omega arith) (λ k m. h k (omega arith)), h w (omega arith)) (sym (take-suc x w 0 (omega arith)))

pub bytes_back : (w at : ℕ) (s : List ℕ) → IsBytes s → at + w ≤ length s → le_bytes w (le_at w s at) ≡ take w (drop at s)
unfolding le_bytes le_at
bytes_back w at s bytes l =
    single w (drop at s) _ (rw (length-drop at s) (omega arith))
    (λ k m. byte_said w (λ k. byte_at s (at + k)) (λ k. bytes (at + k)) k m ∙ sym (get_or-drop at s k 0))

-- parts of a list that follow each other, one after the other
pub concat_parts : (n at : ℕ) (part : ℕ → ℕ) (s : List ℕ) → concat_below n (λ k. take (part k) (drop (at + sum_below k part) s)) ≡ take (sum_below n part) (drop at s)
unfolding concat_below sum_below
concat_parts zero at part s = refl
concat_parts (suc n) at part s = rw (concat_parts n at part s, take-add (sum_below n part) (part n) (drop at s), drop-drop (sum_below n part) at s)
