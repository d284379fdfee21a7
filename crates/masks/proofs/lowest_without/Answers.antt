use Rattle.rows.proofs.Kit.{sym, rules}
use Rattle.masks.proofs.{MaskLaws.lowest_first}
use Rattle.masks.proofs.lowest_without.Goals as goal

pub returns : goal.returns
returns c = rw (c.lowest.ensures, c.without.ensures) (sym (lowest_first 32 _ _ (search rules)))
