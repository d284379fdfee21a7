-- Little-endian numbers in a list of bytes.
use Rattle.std.specs.Prelude.{ℕ, ◌+◌, ◌*◌, ◌/◌, ◌%◌, ◌^◌, List, get_or}
use Rattle.rows.specs.Below.{sum_below}

-- the byte at a place
abbrev pub byte_at : List ℕ → ℕ → ℕ
byte_at b at = get_or b at 0

-- the number that the w bytes from `at` on say, the least significant first
unfoldable pub le_at : ℕ → List ℕ → ℕ → ℕ
le_at w b at = sum_below w (λ k. 256 ^ k * byte_at b (at + k))

-- byte k of a number, the least significant first
unfoldable pub byte_of : ℕ → ℕ → ℕ
byte_of k v = v / 256 ^ k % 256
