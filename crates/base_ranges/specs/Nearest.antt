-- The last multiple of a range.
use Rattle.std.specs.Prelude.{ℕ, ◌-◌, ◌%◌}

-- the highest multiple of a at or below x; of 0 it is 0
unfoldable pub multiple_to : ℕ → ℕ → ℕ
multiple_to x a = x - x % a
