use Rattle.rows.proofs.Kit.{rules}
use Rattle.area_table.specs.AreaTable.{root}
use Rattle.area_table.proofs.root_of.Goals as goal

pub returns : goal.returns
unfolding root
returns c = search rules
