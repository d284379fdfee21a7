-- Laws of virtual trust levels.
use Rattle.rows.proofs.Kit.{◌≡◌, refl, ℕ, ◌≤◌, ◌<◌, arith}
use Rattle.igvm_defs.specs.{declared.Vtl.Vtl, declared.Vtl.TheVariants.{Vtl0, Vtl1, Vtl2}, Vtls.{vtl_of, vtl_number}}
use Rattle.igvm_defs.proofs.Runs.{each, ◌⨾◌}

-- the number of the level that a code names is the code
pub vtl_number_lem : (code : ℕ) → code ≤ 2 → vtl_number (vtl_of code) ≡ code
unfolding vtl_of
vtl_number_lem code h = each (λ (k : ℕ). vtl_number (vtl_of k) ≡ k) 0 3 (refl ⨾ refl ⨾ refl ⨾ tt) code (omega arith) (omega arith)

-- there are three levels
pub vtl_below : (v : Vtl) → vtl_number v < 3
vtl_below Vtl0 = omega arith
vtl_below Vtl1 = omega arith
vtl_below Vtl2 = omega arith
