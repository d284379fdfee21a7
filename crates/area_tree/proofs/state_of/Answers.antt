use Rattle.rows.proofs.Kit.{arith, sym, ◌∙◌}
use Rattle.area_tree.proofs.{AreaTreeLaws.{told_node, told_none}}
use Rattle.area_tree.proofs.state_of.Goals as goal

pub returns-then-k-eq0 : goal.returns-then-k-eq0
returns-then-k-eq0 c = λ count f h. told_none h _ _ (omega arith) c.place_of.ensures.0 (sym c.if-k-eq0.true ∙ c.node_at-k.ensures.0)

pub returns : goal.returns
returns c = λ count f h. told_node h _ _ _ (omega arith) c.place_of.ensures.0 c.node_at-k.ensures.0 c.if-k-eq0.false
