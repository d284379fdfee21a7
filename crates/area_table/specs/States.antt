-- What may be known of an area, and the number that stands for it.
use Rattle.std.specs.Prelude.{ℕ, cond, eqb, Option, Some, None}
use Rattle.area_table.specs.declared.AreaState.{AreaState}
use Rattle.area_table.specs.declared.AreaState.TheVariants.{Nothing, Allocated, Inserted}

abbrev pub state_code : AreaState → ℕ
state_code Nothing = 0
state_code Allocated = 1
state_code Inserted = 2

-- the state that a number stands for; 3, which stands for an area of which a table can't tell, is none
unfoldable pub state_told : ℕ → Option AreaState
state_told n = cond (eqb n 0) (Some Nothing) (cond (eqb n 1) (Some Allocated) (cond (eqb n 2) (Some Inserted) None))
