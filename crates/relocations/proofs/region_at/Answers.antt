use Rattle.rows.proofs.Kit.{sym}
use Rattle.igvm_defs.proofs.AnswerLaws.{thrown}
use Rattle.sheet.specs.Head.{limits}
use Rattle.relocations.proofs.{CallLaws.{check_stops, check_36, check_passes}}
use Rattle.relocations.proofs.region_at.Goals as goal

pub returns-in_err-sheet : goal.returns-in_err-sheet
returns-in_err-sheet c =
    thrown c.from_residual.result _ _ _ c.from_residual.ensures.1 (check_stops limits c.args.s.now c.args.given c.args.region _ c.in_err-sheet.ensures)

pub returns-in-None : goal.returns-in-None
returns-in-None c =
    check_36 limits c.args.s.now c.args.given c.args.region _ c.in_ok-sheet.ensures.0 (rw c.in_ok-sheet.ensures.1 at c.in-None.ensures) c.refusal.ensures

pub returns-in-Some : goal.returns-in-Some
returns-in-Some c =
    let there = rw c.in_ok-sheet.ensures.1 at c.in-Some.ensures in
    (check_passes limits c.args.s.now c.args.given c.args.region c.in-Some.r c.in_ok-sheet.ensures.0 there, sym there)
