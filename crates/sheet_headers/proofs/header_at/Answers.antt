use Rattle.sheet.proofs.Readable.{body_least}
use Rattle.sheet_headers.proofs.header_at.Goals as goal

pub decode-requires-clause-kind_in_bounds : goal.decode-requires-clause-kind_in_bounds
decode-requires-clause-kind_in_bounds g c = rw (c.cursor_row-row.ensures.0, c.cursor_body.ensures) (body_least _ _ c.requires.at_row)
