use Rattle.rows.proofs.Kit.{sym, ◌∙◌}
use Rattle.directive_row.proofs.{AreaRowLaws.{area_named_lem, insert_named, parameter_named}}
use Rattle.directive_row.proofs.area_row.Goals as goal

pub returns-then-is_parameter : goal.returns-then-is_parameter
returns-then-is_parameter g c =
    let p = sym c.is_parameter.ensures ∙ c.if-is_parameter.true in
    record { named_row = λ arch is earlier h k e. parameter_named arch is earlier _ p _ _ (c.parameter_row.ensures arch earlier _ p k e); by_index = λ known e h. h }

pub returns-in-33 : goal.returns-in-33
returns-in-33 g c =
    let key = c.in-33.is in
    record { named_row = λ arch is earlier h k e. area_named_lem arch is earlier _ _ _ key (c.parameter_area_row.ensures.area_row arch earlier k e); by_index = c.parameter_area_row.ensures.by_index }

pub returns-in-50 : goal.returns-in-50
returns-in-50 g c =
    let key = c.in-50.is in record { named_row = λ arch is earlier h k e. let (row, table) = c.parameter_insert_row.ensures.area_row arch is earlier h k e in insert_named arch is earlier _ _ _ key row table; by_index = c.parameter_insert_row.ensures.by_index }
