use Rattle.rows.proofs.Kit.{arith, eqb-true, sym, ◌∙◌}
use Rattle.directive_row.proofs.{AreaRowLaws.{table_says, parameter_area_lem}}
use Rattle.directive_row.proofs.parameter_row.Goals as goal

pub returns : goal.returns
returns g c = λ arch earlier kind k h e.
    let allocated = eqb-true _ 1 (sym c.is.ensures ∙ e) in
    parameter_area_lem kind k _ earlier (rw c.u32_at.ensures at (table_says earlier _ 1 h allocated (omega arith))) arch _ c.if-b-ne8.false h
