use Rattle.rows.proofs.Kit.{true, false, arith, ◌-◌, ◌≡◌, sym, ◌∙◌}
use Rattle.area_tree.specs.AreaTree.{ends, child, place_of}
use Rattle.area_tree.proofs.{AreaTreeLaws.{find_end, find_look, find_zero}}
use Rattle.area_tree.proofs.place_of.Goals as goal

pub loop-looked-init : goal.loop-looked-init
unfolding place_of
loop-looked-init c = (rw c.root_of-p.ensures.0, omega arith)

pub returns : goal.returns
returns c =
    let l = c.loop-looked in
    let z : 33 - l._looked ≡ 0 = omega arith in
    (sym (rw z at l.invariant.0 ∙ find_zero _ _ l.rest l.p), omega arith)

-- where the loop stands, and what its test says there
pub returns-then-k-nodes : goal.returns-then-k-nodes
unfolding ends
returns-then-k-nodes c =
    let l = c.loop-looked in
    let t : ends c.args.nodes.now c.args.area l.p ≡ true = rw (← c.node_at-k.ensures.0) c.if-k-nodes.true in
    (sym (l.invariant.0 ∙ find_end _ _ (33 - l._looked) l.rest l.p (omega arith) t), l.invariant.1)

pub loop-looked-preserved : goal.loop-looked-preserved
unfolding child ends
loop-looked-preserved c =
    let l = c.loop-looked in
    let t : ends c.args.nodes.now c.args.area l.p ≡ false = rw (← c.node_at-k.ensures.0) c.if-k-nodes.false in
    let on = find_look _ _ l._looked l.rest l.p (omega arith) t in
    (rw c.node_at-k.ensures.0 (l.invariant.0 ∙ on), omega arith)
