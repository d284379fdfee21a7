-- The sheet made of the rows of image B is image B, byte for byte, by computation.
use Rattle.rows.proofs.Kit.{◌≡◌, refl}
use Rattle.le.specs.{Le.byte_of, Bytes.{concat_below, le_bytes}}
use Rattle.sheet_of.specs.SheetOf.{head_bytes, entry_bytes, sheet_of}
use Rattle.image_b.specs.{ImageB.image_b, Made.made_b}

pub made : made_b ≡ image_b
unfolding made_b image_b sheet_of head_bytes entry_bytes concat_below le_bytes byte_of
made = refl
