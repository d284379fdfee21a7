-- Laws of little-endian numbers: reads within the bytes that two lists share, and the bound of a number.
use Rattle.rows.{proofs.Kit.{◌≡◌, ◌∙◌, ap, sym, true, List, ℕ, ◌+◌, ◌*◌, ◌^◌, ◌<◌, ◌≤◌, arith, leb, ltb, take, get_or-take, leb-true, ltb-true}, proofs.BelowLaws.sum_cong}
use Rattle.le.specs.Le.{byte_at, le_at}

-- ---- two lists that agree on their first m bytes
module _ (m : ℕ) (x y : List ℕ) (h : take m x ≡ take m y) where
  pub byte_same : (o : ℕ) → o < m → byte_at x o ≡ byte_at y o
  byte_same o l = sym (get_or-take m x o 0 l) ∙ ap (λ (s : List ℕ). byte_at s o) h ∙ get_or-take m y o 0 l

  -- a read of w bytes at o, within the m bytes
  pub le_same : (w o : ℕ) → o + w ≤ m → le_at w x o ≡ le_at w y o
  unfolding le_at
  le_same w o l = sum_cong w _ _ (λ k b. ap (λ n. 256 ^ k * n) (byte_same (o + k) (omega arith)))

  -- the same two, with a bound that computes: `simp` proves it by itself
  pub le_read : (w o : ℕ) → leb (o + w) m ≡ true → le_at w x o ≡ le_at w y o
  le_read w o l = le_same w o (leb-true (o + w) m l)

  pub byte_read : (o : ℕ) → ltb o m ≡ true → byte_at x o ≡ byte_at y o
  byte_read o l = byte_same o (ltb-true o m l)
