use Rattle.rows.proofs.Kit.{rules}
use Rattle.area_tree.specs.AreaTree.{root}
use Rattle.area_tree.proofs.root_of.Goals as goal

pub returns : goal.returns
unfolding root
returns c = search rules
