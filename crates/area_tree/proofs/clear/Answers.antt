use Rattle.area_tree.proofs.{AreaTreeLaws.{holds_none}}
use Rattle.area_tree.proofs.clear.Goals as goal

pub returns : goal.returns
returns c = holds_none
