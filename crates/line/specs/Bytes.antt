-- The bytes of a line: its text, and zeros behind it.
use Rattle.std.proofs.Common.{ℕ, ◌-◌, ◌≤◌, List, ◌≡◌, sym, ap, subst, ◌∙◌, ◌++◌, length, take, drop, replicate, take-append-drop, length-take-le}

abbrev pub ZerosBehind : ℕ → List ℕ → Type 0
ZerosBehind n bytes = (n ≤ 96) × (length bytes ≡ 96) × (drop n bytes ≡ replicate (96 - n) 0)

-- the text tells the length and the bytes
module _ (n : ℕ) (bytes : List ℕ) (behind : ZerosBehind n bytes) where
  pub text_long : length (take n bytes) ≡ n
  text_long = length-take-le n bytes (subst (λ m. n ≤ m) (sym behind.1) behind.0)

  pub text_and_zeros : take n bytes ++ replicate (96 - length (take n bytes)) 0 ≡ bytes
  text_and_zeros =
      ap (λ m. take n bytes ++ replicate (96 - m) 0) text_long ∙ ap (λ zeros. take n bytes ++ zeros) (sym behind.2) ∙ take-append-drop n bytes
