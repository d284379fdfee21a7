use Rattle.rows.{proofs.BelowLaws.{any_more, none_any, first_any, first_at}, proofs.Kit.{arith, ◌≡◌, sym, ◌∙◌}}
use Rattle.contexts.specs.Contexts.{lacks_bit}
use Rattle.contexts.proofs.first_lacking.Goals as goal

pub returns-then-lacks_bit : goal.returns-then-lacks_bit
returns-then-lacks_bit g c =
    let p = lacks_bit c.args.held.now.mask c.args.held.now.vtl c.args.contexts.now in
    sym (first_at c.args.held.now.count p c.loop-i.i (omega arith) ((none_any c.loop-i.i p).0 c.loop-i.invariant) (sym c.lacks_bit.ensures ∙ c.if-lacks_bit.true))

pub loop-i-preserved : goal.loop-i-preserved
loop-i-preserved g c = rw (any_more, c.loop-i.invariant, ← c.lacks_bit.ensures) c.if-lacks_bit.false

pub returns : goal.returns
returns g c =
    let e : c.loop-i.i ≡ c.args.held.now.count = omega arith in
    sym ((first_any c.args.held.now.count _).1 (rw e at c.loop-i.invariant))
