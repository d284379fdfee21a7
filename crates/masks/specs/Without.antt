-- The bits of a mask that another has not, as a mask, and the lowest bit of a mask. `without_bit` and `lowest_first` in proofs/MaskLaws.antt say which they are.
use Rattle.std.specs.Prelude.{ℕ, ◌-◌, cond, eqb}
use Rattle.std.proofs.Math.Option.{Option, none, some}
use Rattle.std.specs.Int.Bits.{bit_and}

unfoldable pub without : ℕ → ℕ → ℕ
without m held = m - bit_and m held

unfoldable pub lowest_bit : ℕ → Option ℕ
lowest_bit m = cond (eqb m 0) none (some (m - bit_and m (m - 1)))
