use Rattle.platform_check.proofs.{RecordLaws.{holds_next}}
use Rattle.rows.proofs.Kit.{◌≡◌}
use Rattle.rows.specs.Rows.{before}
use Rattle.platform_check.proofs.Platforms.step.Goals as goal

pub returns : goal.returns
returns c xs i e held =
    record {
      fault = rw e at (c.check-told.ensures (before i xs) held);
      next = holds_next c.push.new.self xs i c.args.h e (c.push.ensures (before i xs) held);
    }
