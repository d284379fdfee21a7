-- Compatibility masks: a bit for each platform.
use Rattle.std.specs.Prelude.{ℕ, zero, suc, ◌^◌, Bool, cond, not, List, [], ◌∷◌, ◌++◌, eqb}
use Rattle.std.proofs.Math.Option.{Option, none, some}
use Rattle.std.specs.Int.Bits.{bit_and}
use Rattle.std.specs.Int.Count as Count

-- two masks have a bit in common
unfoldable pub shares : ℕ → ℕ → Bool
shares m n = not (eqb (bit_and m n) 0)

-- the mask holds every bit of the mask given
unfoldable pub matches : ℕ → ℕ → Bool
matches given m = eqb (bit_and m given) given

-- one bit is set
unfoldable pub is_one_bit : ℕ → Bool
is_one_bit m = eqb (Count.ones m) 1

-- bit k is set
unfoldable pub has_bit : ℕ → ℕ → Bool
has_bit m k = shares m (2 ^ k)

-- the set bits among the n lowest, each as a mask, lowest first
unfoldable pub bits_below : ℕ → ℕ → List ℕ
bits_below zero m = []
bits_below (suc n) m = bits_below n m ++ cond (has_bit m n) (2 ^ n ∷ []) []

-- the set bits of a u32, each as a mask, lowest first
abbrev pub individual_masks : ℕ → List ℕ
individual_masks m = bits_below 32 m

-- the first of the masks that passes
unfoldable pub first_mask : (ℕ → Bool) → List ℕ → Option ℕ
first_mask p [] = none
first_mask p (m ∷ ms) = cond (p m) (some m) (first_mask p ms)
