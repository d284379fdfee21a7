use Rattle.rows.proofs.Kit.{arith, sym}
use Rattle.area_tree.proofs.{AreaTreeLaws.{node_here, node_none}}
use Rattle.area_tree.proofs.node_at.Goals as goal

pub returns-then-k-gt1024 : goal.returns-then-k-gt1024
returns-then-k-gt1024 c = (sym (node_none _ _ (omega arith)), omega arith)

pub returns : goal.returns
returns c = (sym (node_here _ _ (omega arith)), omega arith)
