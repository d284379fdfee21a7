use Rattle.base_ranges.proofs.{PartLaws.there}
use Rattle.base_ranges.proofs.has_multiple.Goals as goal

pub returns : goal.returns
returns c = rw c.multiple_to.ensures (there _ _ _)
