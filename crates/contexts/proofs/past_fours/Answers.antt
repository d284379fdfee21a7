use Rattle.rows.{specs.Below.any_below, proofs.Kit.{arith, ◌+◌, ◌*◌, ◌/◌, ◌≡◌, refl}}
use Rattle.contexts.specs.Contexts.{lacks_bit}
use Rattle.contexts.proofs.{LackingLaws.{three_absent, four_more}}
use Rattle.contexts.proofs.past_fours.Goals as goal

pub loop-four-init : goal.loop-four-init
unfolding any_below
loop-four-init g c = refl

pub loop-four-preserved : goal.loop-four-preserved
loop-four-preserved g c =
    let lacks = lacks_bit c.args.held.now.mask c.args.held.now.vtl c.args.contexts.now in
    let k = c.loop-four.four in
    let absent = three_absent c.args.contexts.now _ _ _ c.absent.ensures c.absent-2.ensures c.absent-3.ensures in
    let lacking = rw (c.four_lack.ensures c.args.contexts.now absent) at c.if-four_lack.false in
    let e : 4 * (k + 1) ≡ 4 * k + 4 = omega arith in
    rw e (four_more (4 * k) lacks c.loop-four.invariant lacking)

pub returns : goal.returns
returns g c =
    let e : c.loop-four.four ≡ c.args.held.now.count / 4 = omega arith in
    (omega arith, rw e at c.loop-four.invariant)
