-- Virtual trust levels.
use Rattle.std.specs.Prelude.{ℕ, cond, eqb}
use Rattle.igvm_defs.specs.declared.Vtl.{Vtl}
use Rattle.igvm_defs.specs.declared.Vtl.TheVariants.{Vtl0, Vtl1, Vtl2}

-- the level that a code names; a code above 2 is refusal 5, and is never asked for
unfoldable pub vtl_of : ℕ → Vtl
vtl_of code = cond (eqb code 0) Vtl0 (cond (eqb code 1) Vtl1 Vtl2)

abbrev pub vtl_number : Vtl → ℕ
vtl_number Vtl0 = 0
vtl_number Vtl1 = 1
vtl_number Vtl2 = 2
