-- The rows of a list that are kept: a row that has a fault, judged after the rows kept before it, is skipped and leaves no trace.
use Rattle.std.specs.Prelude.{ℕ, zero, suc, cond}
use Rattle.rows.specs.Rows.{Rows, before, more}
use Rattle.igvm_defs.specs.{declared.Fault.Fault, Refusals.is_fault}

-- `rule earlier h` is the fault of a row h after earlier rows
module _ {H : Type 0} (rule : Rows H → H → Fault) (xs : Rows H) where
  -- the rows kept of the first n
  unfoldable pub kept_below : ℕ → Rows H
  kept_below zero = before 0 xs
  kept_below (suc n) = cond (is_fault (rule (kept_below n) (xs.row n))) (kept_below n) (more (kept_below n) (xs.row n))

  -- the fault of row i, after the rows kept before it
  abbrev pub fault_of : ℕ → Fault
  fault_of i = rule (kept_below i) (xs.row i)

  -- the rows kept of all
  abbrev pub kept : Rows H
  kept = kept_below xs.count
