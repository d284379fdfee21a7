use Rattle.directive_row.proofs.parameter_insert_row.Goals as goal

pub returns : goal.returns
returns g c =
    let clear = c.clear_of_tables.ensures in
    record { area_row = λ arch is earlier h k e. (c.insert_row.ensures.area_row arch earlier k e, clear is h (c.if-not-clear_of_tables.false)); by_index = c.insert_row.ensures.by_index }
