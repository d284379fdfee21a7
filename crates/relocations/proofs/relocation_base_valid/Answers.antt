use Rattle.answers.specs.Relocations.{answer_of}
use Rattle.query.proofs.QueryLaws.{answered_is}
use Rattle.relocations.proofs.relocation_base_valid.Goals as goal

pub returns : goal.returns
unfolding answer_of
returns c = answered_is _ _ _ _ c.base_check.ensures c.answered.ensures
