use Rattle.initialization_row.proofs.{RowLaws.policy_in_order}
use Rattle.initialization_row.proofs.policy_row.Goals as goal

pub returns : goal.returns
returns c arch ps ex holds e =
    policy_in_order arch ps _ _ _ _ _ _ _ _ ex holds c.if-b-ne22.false c.u32_at.ensures c.u64_at.ensures c.u64_at-2.ensures
    c.shares_u64.ensures c.matches.ensures e
