use Rattle.answers.specs.Owner.{region_owner_of}
use Rattle.query.proofs.QueryLaws.{answered_is}
use Rattle.owner.proofs.region_of.Goals as goal

pub returns : goal.returns
unfolding region_owner_of
returns c = answered_is _ _ _ _ c.owner.ensures c.answered.ensures
