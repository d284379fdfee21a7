use Rattle.rows.proofs.Kit.{◌≡◌, sym, ◌∙◌}
use Rattle.igvm_defs.{specs.Refusals.no_fault, proofs.{RefusalLaws.{row_refusal_lem, no_fault_row, no_fault_lem}, AnswerLaws.{thrown, told_if, row_passed, row_stopped}}}
use Rattle.platform_pass.proofs.PlatformPass.{platforms_first, platforms_last}
use Rattle.platform_pass.proofs.validate_platform_headers.Goals as goal

pub returns-in_err-platforms : goal.returns-in_err-platforms
returns-in_err-platforms c =
    let (is, refuses) = c.in_err-platforms.ensures in
    thrown _ _ _ _ c.from_residual.ensures.1 (rw (platforms_first c.args.s.now.bytes.now refuses) (is, refuses))

pub returns-in_err-map_err : goal.returns-in_err-map_err
returns-in_err-map_err c =
    let s = c.args.s.now in let last = platforms_last s.bytes.now c.in_ok-platforms.ensures.0 in
    let told = told_if c.refuse_if.result _ _ _ c.refuse_if.ensures in
    let (is, t) = row_stopped c.refuse_if.result _ told 0 c.in_err-map_err.field-0.0 c.in_err-map_err.ensures.cases (λ x p. cc) (λ f q. cc) in
    thrown _ _ _ _ c.from_residual-in_err-map_err.ensures.1 (rw (last, ← s.head_is) (is, row_refusal_lem _ _ ∙ t))

pub returns : goal.returns
returns c =
    let s = c.args.s.now in let last = platforms_last s.bytes.now c.in_ok-platforms.ensures.0 in
    let none = row_passed c.refuse_if.result _ (told_if c.refuse_if.result _ _ _ c.refuse_if.ensures) c.in_ok-map_err.ensures.variant in
    (rw (last, ← s.head_is, none) (no_fault_row 0 no_fault no_fault_lem), c.in_ok-platforms.ensures.1)
