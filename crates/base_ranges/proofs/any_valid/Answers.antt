use Rattle.rows.proofs.Kit.{sym}
use Rattle.base_ranges.proofs.{PartLaws.{valid_part, none_valid}}
use Rattle.base_ranges.proofs.any_valid.Goals as goal

pub returns-then-maximum-size : goal.returns-then-maximum-size
returns-then-maximum-size c = let g = c.args in sym (none_valid g.alignment g.size g.minimum g.maximum g.lowest g.highest c.if-maximum-size.true)

pub returns : goal.returns
returns c =
    let g = c.args in
    rw (c.has_multiple.ensures, c.min.ensures, c.max.ensures)
    (valid_part g.alignment g.size g.minimum g.maximum g.lowest g.highest c.if-maximum-size.false)
