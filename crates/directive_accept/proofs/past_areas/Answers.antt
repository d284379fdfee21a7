use Rattle.rows.proofs.Kit.{arith}
use Rattle.directive_accept.proofs.past_areas.Goals as goal

-- the cursor is not behind the last row
pub overflow_sub-end : goal.overflow_sub-end
overflow_sub-end g c = omega (arith, c.requires.s_in_bounds.1, c.requires.plain_accepted.rows.read.high)
