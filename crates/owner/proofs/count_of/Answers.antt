use Rattle.rows.{proofs.Kit.{◌≡◌, refl, arith}, specs.Below.sum_below, proofs.BelowLaws.count_more, proofs.Bools.{one_at_most, byte_count}}
use Rattle.owner.proofs.count_of.Goals as goal

pub loop-i-init : goal.loop-i-init
unfolding sum_below
loop-i-init g c = (refl, omega arith)

pub loop-i-preserved : goal.loop-i-preserved
loop-i-preserved g c =
    let most = one_at_most c.matches.result in
    (rw (count_more, ← c.loop-i.invariant.0, ← c.matches.ensures, byte_count c.matches.result), omega arith)

pub returns : goal.returns
returns g c = let e : c.loop-i.i ≡ c.args.held.now.count = omega arith in (rw e at c.loop-i.invariant.0, omega arith)
