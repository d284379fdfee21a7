use Rattle.rows.{proofs.Kit.{false, not, ◌&&◌, get_or}, proofs.BelowLaws.count_le}
use Rattle.masks.specs.Masks.{matches}
use Rattle.regions.proofs.count_within.Goals as goal

-- no more regions are of the mask than there are
pub returns-then-kept-room-clause-lower_bound : goal.returns-then-kept-room-clause-lower_bound
returns-then-kept-room-clause-lower_bound g c =
    let a = c.args in count_le a.kept.now.count (λ e. matches a.given (get_or a.kept.now.mask e 0) && not (get_or a.kept.now.page_table e false))
