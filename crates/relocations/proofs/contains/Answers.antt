use Rattle.sheet.specs.Head.{limits}
use Rattle.rules.specs.Relocations.{region_contains}
use Rattle.relocations.proofs.{CallLaws.{checked, check_refused}}
use Rattle.relocations.proofs.contains.Goals as goal

pub returns-in-Ok : goal.returns-in-Ok
returns-in-Ok c =
    let (passed, found) = c.in-Ok.ensures in
    rw c.contains.ensures (checked limits c.args.s.now c.args.given (λ r. region_contains r c.args.gpa) c.args.region c.in-Ok.r passed found)

pub returns-in-Err : goal.returns-in-Err
returns-in-Err c = check_refused limits c.args.s.now c.args.given (λ r. region_contains r c.args.gpa) c.args.region _ c.in-Err.ensures
