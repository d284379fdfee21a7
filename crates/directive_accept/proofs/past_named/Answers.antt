use Rattle.rows.proofs.Kit.{arith, rules}
use Rattle.directive_accept.proofs.{NamedLaws.named_turn}
use Rattle.directive_accept.proofs.past_named.Goals as goal

pub past_area_rows-d-requires : goal.past_area_rows-d-requires
past_area_rows-d-requires g c =
    let p = c.requires in
    let a = c.loop-c.invariant in
    (search rules, (search rules, ((p.s_in_bounds.0, a.rows.read, a.rows.low, p.s_in_bounds.1), (p.holds_tables, a.known))))

pub past_plain-c-requires : goal.past_plain-c-requires
past_plain-c-requires g c =
    let a = c.loop-c.invariant in
    record { s_in_bounds = c.requires.s_in_bounds; directives_accepted = (c.past_area_rows-d.ensures.accepted _ a.rows, a.masks) }

pub loop-c-smaller : goal.loop-c-smaller
loop-c-smaller g c =
    let l = c.loop-c-test.true in
    let k = c.if-c-k.false in
    let a = c.past_area_rows-d.ensures.low in
    let p = c.past_plain-c.ensures.low in
    omega arith

pub loop-c-preserved : goal.loop-c-preserved
loop-c-preserved g c = named_turn _ _ _ _ _ _ c.past_area_rows-d.ensures c.past_plain-c.ensures
