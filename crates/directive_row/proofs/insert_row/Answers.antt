use Rattle.rows.proofs.Kit.{eqb-true, arith, sym, ap, ◌∙◌}
use Rattle.addresses.specs.Addresses.{on_page}
use Rattle.directive_row.specs.Row.{state_of}
use Rattle.directive_row.proofs.{AreaRowLaws.{table_says, insert_area}}
use Rattle.directive_row.proofs.insert_row.Goals as goal

pub returns : goal.returns
returns g c =
    let state = c.change.ensures.value in
    let held = c.change.ensures.by_index in
    let u = c.u32_at.ensures in
    let page = sym (ap on_page c.u64_at.ensures) ∙ sym c.on_page.ensures ∙ c.if-not-on_page.false in record {
      area_row = λ arch earlier h e.
          insert_area earlier _ (rw u at (table_says earlier _ 1 h (eqb-true _ 1 (sym state ∙ e)) (omega arith))) arch _ c.if-b-ne16.false page (rw (e, u) at (held (state_of earlier) h));
      by_index = λ known e h. rw e at (held known h);
    }
