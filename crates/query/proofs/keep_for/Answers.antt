use Rattle.rows.proofs.Kit.{ap, arith}
use Rattle.sheet.specs.declared.SheetHead.{SheetHead}
use Rattle.query.proofs.QueryLaws.{verdict_thrown, mask_passes, kept_with_places}
use Rattle.query.proofs.keep_for.Goals as goal

pub returns-in_err-judge : goal.returns-in_err-judge
returns-in_err-judge g c = verdict_thrown c.args.s.now c.args.given c.from_residual.result _ c.in_err-judge.field-0.0 c.from_residual.ensures.1 c.in_err-judge.ensures

pub returns : goal.returns
returns g c =
    let (v, kept) = c.in_ok-judge.ensures in
    let e = ap (λ (y : SheetHead). y.initializations) c.requires.s_value.1 in
    let room = c.requires.room in
    mask_passes c.args.s.now c.args.given v _ c.refuse_if.ensures
    (λ x n. kept_with_places c.args.s.now c.args.given _ _ v n kept (omega arith) (omega arith))
