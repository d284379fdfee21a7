use Rattle.answers.specs.Owner.{region_index_of}
use Rattle.query.proofs.QueryLaws.{answered_is}
use Rattle.owner.proofs.region_index.Goals as goal

pub returns-clause-value : goal.returns-clause-value
unfolding region_index_of
returns-clause-value c = answered_is _ _ _ _ c.index.ensures.value c.answered.ensures
