use Rattle.rows.proofs.Kit.{not-true, ◌∙◌}
use Rattle.directive_row.proofs.{AreaRowLaws.insert_table}
use Rattle.directive_row.proofs.clear_of_tables.Goals as goal

pub returns : goal.returns
returns g c = λ is h e. insert_table is _ _ (rw (c.u32_at.ensures, c.u64_at.ensures) at (c.any_table_holds.ensures ∙ h _ _)) (not-true _ e)
