use Rattle.sheet.proofs.Readable.{offset_next}
use Rattle.sheet_reader.proofs.place_after.Goals as goal

pub returns : goal.returns
returns c = rw (c.after.ensures, c.row_at.ensures, c.requires.offset, offset_next _ _)
