use Rattle.rows.proofs.Kit.{inl, inr, sym, or-false}
use Rattle.directive_check.proofs.DirectiveRecordLaws.{holds_next, no_vbs_context}
use Rattle.directive_check.proofs.contexts_after.Goals as goal

pub returns-in-X64VbsVpContext : goal.returns-in-X64VbsVpContext
returns-in-X64VbsVpContext c xs i e =
    let next = c.with_context.ensures in
    elim c.in-X64VbsVpContext.is [
      | inl (registers, is) ↦ holds_next c.args.contexts c.with_context.result xs i (λ level bits. rw (← e, is) (next level bits))
      | inr (registers, is) ↦ holds_next c.args.contexts c.with_context.result xs i (λ level bits. rw (← e, is) (next level bits))
    ]

pub returns-in_default : goal.returns-in_default
returns-in_default c xs i e =
    let n = c.in_default in
    holds_next c.args.contexts c.args.contexts xs i
    (λ level bits. rw (← e, no_vbs_context level bits c.args.h n.not-X64VbsVpContext n.not-AArch64VbsVpContext) (sym (or-false _)))
