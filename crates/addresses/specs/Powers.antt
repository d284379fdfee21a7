-- Powers of two.
use Rattle.std.specs.Prelude.{ℕ, ◌^◌, Bool, eqb}
use Rattle.rows.specs.Below.{any_below}

-- a power of two below 2^64: 1 is one, 0 is none
unfoldable pub is_power_of_two : ℕ → Bool
is_power_of_two a = any_below 64 (λ k. eqb a (2 ^ k))
