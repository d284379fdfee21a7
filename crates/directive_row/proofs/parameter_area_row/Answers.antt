use Rattle.rows.proofs.Kit.{eqb-true, arith, sym, ◌∙◌}
use Rattle.directive_row.specs.Row.{state_of}
use Rattle.directive_row.proofs.{AreaRowLaws.{table_says, area_row}}
use Rattle.directive_row.proofs.parameter_area_row.Goals as goal

pub u32_at-requires : goal.u32_at-requires
u32_at-requires g c = c.parameter_area.ensures.1 (c.if-not-parameter_area.false)

pub returns : goal.returns
returns g c =
    let state = c.change.ensures.value in
    let held = c.change.ensures.by_index in
    let u = c.u32_at.ensures in
    let alone = c.parameter_area.ensures.0 in record {
      area_row = λ arch earlier h e.
          area_row earlier _ (rw u at (table_says earlier _ 0 h (eqb-true _ 0 (sym state ∙ e)) (omega arith))) arch _ (alone arch c.if-not-parameter_area.false) (rw (e, u) at (held (state_of earlier) h));
      by_index = λ known e h. rw e at (held known h);
    }
