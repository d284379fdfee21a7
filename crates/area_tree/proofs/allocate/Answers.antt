use Rattle.rows.proofs.Kit.{arith, ◌∙◌}
use Rattle.area_tree.proofs.{AreaTreeLaws.{found_empty, holds_allocate}}
use Rattle.area_tree.proofs.allocate.Goals as goal

pub returns-then-count-ge-MOST : goal.returns-then-count-ge-MOST
returns-then-count-ge-MOST c = λ f l h z. absurd (omega arith)

pub returns : goal.returns
returns c =
    λ f l h z. holds_allocate h l _ _ _ (omega arith) (omega arith) c.place_of-p.ensures.0 z

pub returns-then-node_at-ne0 : goal.returns-then-node_at-ne0
returns-then-node_at-ne0 c =
    λ f l h z. absurd (c.if-node_at-ne0.true (c.node_at.ensures.0 ∙ rw c.place_of-p.ensures.0 (found_empty h _ (omega arith) z)))
