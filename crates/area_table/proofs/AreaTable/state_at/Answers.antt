use Rattle.rows.proofs.Kit.{arith, sym}
use Rattle.area_table.proofs.{AreaTableLaws.{state_node, state_empty, state_full}}
use Rattle.area_table.proofs.AreaTable.state_at.Goals as goal

pub returns-then-k-ne0 : goal.returns-then-k-ne0
returns-then-k-ne0 g c = sym (state_node _ _ _ c.requires.1 (λ z. omega arith))

pub returns-then-self : goal.returns-then-self
returns-then-self g c = sym (state_empty _ _ _ c.requires.1 (omega arith) (omega arith))

pub returns : goal.returns
returns g c = sym (state_full _ _ _ c.requires.1 (omega arith) (omega arith))
