use Rattle.rows.proofs.Kit.{rules}
use Rattle.strict.proofs.bit_refusal.Goals as goal

pub returns : goal.returns
returns c = c.in_row.ensures
