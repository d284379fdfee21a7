-- Lists of bytes one after the other, and the bytes of a number.
use Rattle.std.specs.Prelude.{ℕ, zero, suc, ◌<◌, List, [], ◌∷◌, ◌++◌}
use Rattle.le.specs.Le.{byte_at, byte_of}

-- every number of the list is a byte
abbrev pub IsBytes : List ℕ → Type 0
IsBytes s = (k : ℕ) → byte_at s k < 256

-- the lists at the indexes below n, one after the other
unfoldable pub concat_below : ℕ → (ℕ → List ℕ) → List ℕ
concat_below zero f = []
concat_below (suc n) f = concat_below n f ++ f n

-- the w bytes that say a number, the least significant first
unfoldable pub le_bytes : ℕ → ℕ → List ℕ
le_bytes w v = concat_below w (λ k. byte_of k v ∷ [])
