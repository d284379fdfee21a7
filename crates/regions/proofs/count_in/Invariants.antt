use Rattle.rows.{proofs.Kit.{◌≡◌, ◌≤◌, Bool, List, ℕ, not, false, ◌&&◌, get_or}, specs.Below.count_below}
use Rattle.masks.specs.Masks.{matches}
use Rattle.regions.proofs.count_in.Given as goal

-- of the first i regions those of the mask are counted
abbrev pub of_mask : ℕ → List ℕ → List Bool → ℕ → Bool
of_mask given masks tables e = matches given (get_or masks e 0) && not (get_or tables e false)

abbrev pub invariant-loop-i : goal.invariant-loop-i
invariant-loop-i g l = (l.count ≡ count_below l.i (of_mask l.given l.kept.mask l.kept.page_table)) × (l.count ≤ l.i)
