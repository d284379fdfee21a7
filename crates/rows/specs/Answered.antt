-- A Rust Option as the Option of the definitions.
use Rattle.std.specs.Prelude.{Some, None}
use Rattle.std.specs.Prelude as rust
use Rattle.std.proofs.Math.Option.{Option, none, some}

-- what is there, or nothing
abbrev pub option_of : {A : Type 0} → rust.Option A → Option A
option_of None = none
option_of (Some a) = some a
