use Rattle.rows.proofs.Kit.{rules}
use Rattle.igvm_defs.specs.Refusals.{is_fault}
use Rattle.rules.specs.Platforms.{own_platform_fault, platform_fault}
use Rattle.platform_check.proofs.{RecordLaws.{holds_type}}
use Rattle.platform_check.proofs.Platforms.check.Goals as goal

pub returns : goal.returns
unfolding platform_fault own_platform_fault is_fault
returns c xs held = let t = holds_type c.args.self.now xs c.args.h held in search rules
