use Rattle.rows.proofs.Kit.{arith, refl, sym, ◌∙◌}
use Rattle.area_table.proofs.{AreaTableLaws.{state_few, state_place, state_none}}
use Rattle.area_table.proofs.AreaTable.code_of.Goals as goal

pub returns-then-a-lt-FEW : goal.returns-then-a-lt-FEW
returns-then-a-lt-FEW g c = sym (state_few _ _ _ _ _ (omega arith))

pub returns-in-Some : goal.returns-in-Some
returns-in-Some g c = c.state_at.ensures ∙ sym (state_place _ _ _ _ _ (omega arith) _ c.in-Some.ensures.0.is)

pub returns-in-None : goal.returns-in-None
returns-in-None g c = sym (state_place _ _ _ _ _ (omega arith) _ (sym c.in-None.ensures) ∙ state_none _ _ _ refl)
