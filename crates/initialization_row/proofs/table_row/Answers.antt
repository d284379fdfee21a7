use Rattle.initialization_row.proofs.{RowLaws.table_in_order}
use Rattle.initialization_row.proofs.table_row.Goals as goal

pub returns-then-b-own : goal.returns-then-b-own
returns-then-b-own c arch ps =
    table_in_order arch ps _ _ _ _ _ _ _ _ c.if-b-ne31.false c.u32_at.ensures c.u64_at.ensures
    c.u64_at-2.ensures c.u64_at-3.ensures c.u16_at.ensures c.table_ok-own.ensures c.has_room.ensures c.if-b-own.true
