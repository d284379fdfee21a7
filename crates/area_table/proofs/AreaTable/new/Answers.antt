use Rattle.area_table.proofs.{AreaTableLaws.holds_none}
use Rattle.area_table.proofs.AreaTable.new.Goals as goal

pub invariant_of-result : goal.invariant_of-result
invariant_of-result g c = let (e, some, small) = c.requires in rw e (record { tree = (holds_none g.row.NODES some small).tree })

pub returns : goal.returns
returns g c = let (e, some, small) = c.requires in rw e (holds_none g.row.NODES some small)
