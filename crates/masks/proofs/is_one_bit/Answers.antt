use Rattle.rows.proofs.Kit.{arith}
use Rattle.masks.specs.Masks.{is_one_bit}
use Rattle.masks.proofs.{MaskLaws.clears_one_bit}
use lib.Count as Count
use Rattle.masks.proofs.is_one_bit.Goals as goal

pub returns-then-m-eq0 : goal.returns-then-m-eq0
unfolding is_one_bit Count.ones
returns-then-m-eq0 c = rw c.if-m-eq0.true

pub returns : goal.returns
unfolding is_one_bit Count.ones
returns c = clears_one_bit c.args.m (omega arith)
