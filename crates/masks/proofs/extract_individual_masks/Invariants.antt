use Rattle.rows.proofs.Kit.{◌≡◌, ◌≤◌, take}
use Rattle.masks.specs.Masks.{bits_below}
use Rattle.masks.proofs.extract_individual_masks.Given as goal

abbrev pub invariant-loop-k : goal.invariant-loop-k
invariant-loop-k l = (take l.out.count l.out.masks ≡ bits_below l.k l.m) × (l.out.count ≤ l.k)
