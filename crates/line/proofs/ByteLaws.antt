-- The zeros behind a line's text.
use Rattle.std.proofs.Common.{ℕ, ◌+◌, ◌-◌, arith, List, ◌≡◌, refl, sym, ◌∙◌, drop, set, replicate, drop-drop, drop-set-lt}
use Rattle.std.proofs.lemmas.List.{drop-replicate}

-- with a byte more the others are zeros still
pub zeros_behind : (n : ℕ) (bytes : List ℕ) (b : ℕ) → drop n bytes ≡ replicate (96 - n) 0 → drop (n + 1) (set bytes n b) ≡ replicate (96 - (n + 1)) 0
zeros_behind n bytes b zeros =
    let less : 96 - n - 1 ≡ 96 - (n + 1) = omega arith in
    drop-set-lt (n + 1) bytes n b (omega arith) ∙ sym (drop-drop 1 n bytes) ∙ rw (zeros, drop-replicate {X = ℕ} 1 (96 - n) 0, less) refl
