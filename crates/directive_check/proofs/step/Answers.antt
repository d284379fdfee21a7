use Rattle.rows.proofs.Kit.{◌≡◌}
use Rattle.rows.specs.Rows.{before}
use Rattle.directive_check.proofs.step.Goals as goal

pub returns : goal.returns
returns c is xs i e bad inside held =
    record {
      fault = rw e at (c.row_fault.ensures is (before i xs) bad inside);
      next = c.contexts_after.ensures xs i e held;
    }
