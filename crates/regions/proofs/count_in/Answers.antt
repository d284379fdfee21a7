use Rattle.rows.{proofs.Kit.{◌≡◌, refl, arith}, specs.Below.sum_below, proofs.BelowLaws.count_more}
use Rattle.regions.proofs.count_in.Goals as goal

pub loop-i-init : goal.loop-i-init
unfolding sum_below
loop-i-init g c = (refl, omega arith)

pub overflow_add-count : goal.overflow_add-count
overflow_add-count g c = let few = c.requires.1 in omega arith

pub loop-i-preserved : goal.loop-i-preserved
loop-i-preserved g c = (rw (count_more, ← c.loop-i.invariant.0) (cc), omega arith)

pub returns : goal.returns
returns g c =
    let e : c.loop-i.i ≡ c.args.kept.now.count = omega arith in
    let few = c.requires.1 in
    (rw e at c.loop-i.invariant.0, omega arith)
