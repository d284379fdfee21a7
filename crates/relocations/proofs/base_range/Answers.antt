use Rattle.igvm_defs.proofs.AnswerLaws.{thrown}
use Rattle.sheet.specs.Head.{limits}
use Rattle.relocations.proofs.{CallLaws.{range_stops, range_50, range_passes}}
use Rattle.relocations.proofs.base_range.Goals as goal

pub returns-in_err-r : goal.returns-in_err-r
returns-in_err-r c =
    let a = c.args in thrown c.from_residual.result _ _ _ c.from_residual.ensures.1 (range_stops limits a.s.now a.given a.region a.lowest a.highest _ c.in_err-r.ensures)

pub returns-in_err-refuse_if : goal.returns-in_err-refuse_if
returns-in_err-refuse_if c =
    let a = c.args in
    let (t, e) = c.in_err-refuse_if.ensures in
    thrown c.from_residual-in_err-refuse_if.result _ _ _ c.from_residual-in_err-refuse_if.ensures.1
    (range_50 limits a.s.now a.given a.region a.lowest a.highest _ c.in_ok-r.ensures.0 t e)

pub returns : goal.returns
returns c =
    let a = c.args in
    let (passed, found) = c.in_ok-r.ensures in
    (range_passes limits a.s.now a.given a.region a.lowest a.highest passed c.in_ok-refuse_if.ensures, rw found (rw c.base_range-range.ensures at c.number.ensures))
