use Rattle.rows.proofs.Kit.{rules, arith, true≢false, refl}
use Rattle.directive_row.proofs.{PlainLaws.vbs_more}
use Rattle.directive_row.proofs.vbs_context.Goals as goal

pub returns : goal.returns
returns c =
    record { stands_value = λ e. (c.if-not-stands.false, vbs_more _ _ _ _ refl c.u32_at.ensures (omega arith) (omega arith) (search rules)); contexts_unchanged = (λ e. absurd (true≢false e), search rules) }
