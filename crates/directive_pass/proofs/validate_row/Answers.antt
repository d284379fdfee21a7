use Rattle.rows.proofs.Kit.{◌∙◌}
use Rattle.directive_pass.proofs.validate_row.Goals as goal

pub returns-clause-directive_stepped : goal.returns-clause-directive_stepped
returns-clause-directive_stepped g c is xs i row bad tables held =
    let h = c.header_at-row.ensures.0 ∙ row in c.step-step.ensures is xs i h (rw h bad) (c.inside_table-inside.ensures is tables) held
