use Rattle.rows.proofs.Kit.{refl, sym}
use Rattle.igvm_defs.{proofs.{RefusalLaws.no_fault_lem, AnswerLaws.thrown}}
use Rattle.initialization_check.proofs.FaultLaws.{row_fault_lem}
use Rattle.initialization_check.proofs.row_fault.Goals as goal

pub returns-in_err-validate-clause-told : goal.returns-in_err-validate-clause-told
returns-in_err-validate-clause-told c ps earlier hp region clash =
    let a = c.args in let (f, t) = c.in_err-validate.ensures in
    thrown c.from_residual.result _ _ _ c.from_residual.ensures.1 (rw (row_fault_lem a.arch ps earlier a.h _ a.shares a.overlaps region clash, t) (f, t))

pub returns-in_err-policy_fault-clause-told : goal.returns-in_err-policy_fault-clause-told
returns-in_err-policy_fault-clause-told c ps earlier hp region clash =
    let a = c.args in let (f, t) = c.in_err-policy_fault.ensures ps hp in
    thrown c.from_residual-in_err-policy_fault.result _ _ _ c.from_residual-in_err-policy_fault.ensures.1
    (rw (row_fault_lem a.arch ps earlier a.h _ a.shares a.overlaps region clash, c.in_ok-validate.ensures, no_fault_lem, t) (f, t))

pub returns-in-Some-clause-told : goal.returns-in-Some-clause-told
returns-in-Some-clause-told c ps earlier hp region clash =
    let a = c.args in
    rw (row_fault_lem a.arch ps earlier a.h _ a.shares a.overlaps region clash, c.in_ok-validate.ensures, c.in_ok-policy_fault.ensures ps hp, no_fault_lem, c.in-Some.is) c.clash_fault.ensures.told

pub returns-in-None-clause-told : goal.returns-in-None-clause-told
returns-in-None-clause-told c ps earlier hp region clash =
    let a = c.args in
    rw (row_fault_lem a.arch ps earlier a.h _ a.shares a.overlaps region clash, c.in_ok-validate.ensures, c.in_ok-policy_fault.ensures ps hp, no_fault_lem, c.in-None.is) refl
