-- Laws of the bits that are lacking.
use Rattle.rows.{specs.Below.any_below, proofs.BelowLaws.any_more, proofs.Kit.{◌≡◌, refl, ap, Bool, true, false, not, ◌||◌, false≢true, List, [], ◌∷◌, ◌↔◌, Option, none, some, ℕ, zero, suc, ◌+◌, ◌-◌, ◌^◌, ◌≤◌, ◌<◌, arith, bit_and, eqb, get_or}, proofs.Bools.{is_false, or_false_parts}}
use Rattle.masks.{specs.Masks.{shares, matches, individual_masks, first_mask}, proofs.MaskLaws.{matches_none, without_matches, and_absent}}
use Rattle.contexts.specs.Contexts.{found, Absent}

-- a bit of a mask is lacking exactly where the other mask does not hold them all
pub lacks_found : (given m : ℕ) → given < 2 ^ 32 → not (matches given m) ≡ found (first_mask (λ bit. not (shares m bit)) (individual_masks given))
lacks_found given m l = go (first_mask (λ bit. not (shares m bit)) (individual_masks given)) refl (matches_none 32 given m l)
  where
    go : (o : Option ℕ) → first_mask (λ bit. not (shares m bit)) (individual_masks given) ≡ o
        → (matches given m ≡ true) ↔ (first_mask (λ bit. not (shares m bit)) (individual_masks given) ≡ none) → not (matches given m) ≡ found o
    go none e f = rw (f.1 e)
    go (some bit) e f = ap not (is_false (matches given m) (λ h. let n = f.0 h in false≢true (cc)))

-- the same of the bits that the other mask has not
pub absent_found : (given m : ℕ) → given ≤ 4294967295 → m ≤ 4294967295
    → not (eqb (bit_and given (4294967295 - m)) 0) ≡ found (first_mask (λ bit. not (shares m bit)) (individual_masks given))
absent_found given m l h = rw (and_absent 32 given m (omega arith) (omega arith), without_matches) (lacks_found given m (omega arith))

-- what each of three masks has not, found one by one
pub three_absent : (contexts : List ℕ) (a b c : ℕ) → (a ≡ 4294967295 - get_or contexts 0 0) × (get_or contexts 0 0 ≤ 4294967295)
    → (b ≡ 4294967295 - get_or contexts 1 0) × (get_or contexts 1 0 ≤ 4294967295) → (c ≡ 4294967295 - get_or contexts 2 0) × (get_or contexts 2 0 ≤ 4294967295)
    → Absent contexts (a ∷ b ∷ c ∷ [])
three_absent contexts a b c x y z zero l = (x.1, x.0)
three_absent contexts a b c x y z (suc zero) l = (y.1, y.0)
three_absent contexts a b c x y z (suc (suc zero)) l = (z.1, z.0)
three_absent contexts a b c x y z (suc (suc (suc v))) l = absurd (omega arith)

-- four more indexes that fail a test
pub four_more : (i : ℕ) (p : ℕ → Bool) → any_below i p ≡ false → (p i || p (i + 1) || p (i + 2) || p (i + 3)) ≡ false → any_below (i + 4) p ≡ false
four_more i p before h =
    let (first_three, d) = or_false_parts (p i || p (i + 1) || p (i + 2)) (p (i + 3)) h in
    let (first_two, c) = or_false_parts (p i || p (i + 1)) (p (i + 2)) first_three in
    let (a, b) = or_false_parts (p i) (p (i + 1)) first_two in
    one_more (i + 3) (i + 4) (omega arith) (one_more (i + 2) (i + 3) (omega arith) (one_more (i + 1) (i + 2) (omega arith) (one_more i (i + 1) (omega arith) before a) b) c) d
  where
    one_more : (n m : ℕ) → m ≡ n + 1 → any_below n p ≡ false → p n ≡ false → any_below m p ≡ false
    one_more n m e f g = rw (e, any_more n p, f, g)
