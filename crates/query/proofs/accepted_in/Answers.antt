use Rattle.rows.proofs.Kit.{arith, refl}
use Rattle.query.proofs.QueryLaws.{query_readable}
use Rattle.query.proofs.accepted_in.Goals as goal

pub new-kept-requires : goal.new-kept-requires
new-kept-requires g c = let (a, b, n, m) = c.requires.room in omega arith

pub keep_for-requires : goal.keep_for-requires
keep_for-requires g c = let (a, b, n, m) = c.requires.room in (omega arith, (c.requires.s_value, (a, b)))

pub invariant_of-result : goal.invariant_of-result
invariant_of-result g c =
    let (q, _) = c.in_ok-keep_for.ensures in
    record { readable = query_readable c.args.s.now c.args.given q; head_is = c.requires.s_value.1 }

pub returns : goal.returns
returns g c = (c.in_ok-keep_for.ensures.0, refl)
