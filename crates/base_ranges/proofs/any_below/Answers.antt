use Rattle.rows.proofs.Kit.{sym}
use Rattle.base_ranges.proofs.{PartLaws.{below, none_below}}
use Rattle.base_ranges.proofs.any_below.Goals as goal

pub returns-then-lowest-minimum : goal.returns-then-lowest-minimum
returns-then-lowest-minimum c =
    let g = c.args in
    rw (c.has_multiple.ensures, c.min.ensures) (below g.alignment g.minimum g.lowest g.highest c.if-lowest-minimum.true)

pub returns : goal.returns
returns c = let g = c.args in sym (none_below g.alignment g.minimum g.lowest g.highest c.if-lowest-minimum.false)
