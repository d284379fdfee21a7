use Rattle.answers.specs.BaseRanges.{base_range_of}
use Rattle.query.proofs.QueryLaws.{answered_is}
use Rattle.relocations.proofs.relocation_base_range.Goals as goal

pub returns : goal.returns
unfolding base_range_of
returns c = answered_is _ _ _ _ c.base_range.ensures c.answered.ensures
