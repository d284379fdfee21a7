use Rattle.rows.proofs.Kit.{refl}
use Rattle.igvm_defs.proofs.AnswerLaws.{thrown}
use Rattle.sheet.specs.Head.{limits}
use Rattle.query.proofs.QueryLaws.{query_readable}
use Rattle.relocations.proofs.{CallLaws.{list_stops, counted_37, counted_passes}}
use Rattle.relocations.proofs.relocations_query.Goals as goal

pub returns-in_err-head : goal.returns-in_err-head
returns-in_err-head c =
    let a = c.args in
    thrown c.from_residual.result _ _ _ c.from_residual.ensures.1 (list_stops limits a.s.now a.given a.n _ (c.in_err-head.ensures a.given))

pub returns-in_err-count : goal.returns-in_err-count
returns-in_err-count c =
    let a = c.args in
    thrown c.from_residual-in_err-count.result _ _ _ c.from_residual-in_err-count.ensures.1 (list_stops limits a.s.now a.given a.n _ c.in_err-count.ensures)

pub returns-in_err-refuse_if : goal.returns-in_err-refuse_if
returns-in_err-refuse_if c =
    let a = c.args in
    let (passed, (most, least, more)) = c.in_ok-count.ensures in
    let (t, e) = c.in_err-refuse_if.ensures in
    thrown c.from_residual-in_err-refuse_if.result _ _ _ c.from_residual-in_err-refuse_if.ensures.1 (counted_37 limits a.s.now a.given a.n _ passed least more _ t e)

pub invariant_of-result : goal.invariant_of-result
invariant_of-result c =
    let (passed, counts) = c.in_ok-count.ensures in
    record { readable = query_readable c.args.s.now c.args.given passed; head_is = c.in_ok-head.ensures.1 }

pub returns : goal.returns
returns c =
    let a = c.args in
    let (passed, (most, least, more)) = c.in_ok-count.ensures in
    (counted_passes limits a.s.now a.given a.n _ passed least more c.in_ok-refuse_if.ensures, refl)
