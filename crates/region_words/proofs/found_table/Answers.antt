use Rattle.rows.proofs.Kit.{arith}
use Rattle.sheet.{specs.Head.limits, proofs.Readable.{at_row, initialization_row}}
use Rattle.region_words.proofs.found_table.Goals as goal

pub header_at-at-requires : goal.header_at-at-requires
header_at-at-requires c =
    let a = c.args.s.now in
    let (low, high) = rw c.in-Some.is at c.requires in
    record {
      at_row = rw c.cursor_at-c.ensures (at_row limits a.bytes.now a.readable c.in-Some.row (omega arith));
      row_value = rw c.cursor_at-c.ensures (initialization_row limits a.bytes.now a.readable c.in-Some.row low high);
    }
