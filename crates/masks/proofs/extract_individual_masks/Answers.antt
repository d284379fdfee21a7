use Rattle.rows.proofs.Kit.{refl, arith, rules}
use Rattle.masks.specs.Masks.{bits_below, has_bit}
use Rattle.masks.proofs.{MaskLaws.{one_bit, bits_more}}
use Rattle.masks.proofs.extract_individual_masks.Goals as goal

pub loop-k-init : goal.loop-k-init
unfolding bits_below
loop-k-init c = (refl, omega arith)

pub loop-k-preserved : goal.loop-k-preserved
unfolding has_bit
loop-k-preserved c = let k = c.loop-k.k in (rw bits_more (cc (one_bit k (search rules))), omega arith)
