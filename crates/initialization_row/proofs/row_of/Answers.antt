use Rattle.initialization_row.proofs.{RowLaws.guest_in_order}
use Rattle.initialization_row.proofs.row_of.Goals as goal

pub returns-in-16 : goal.returns-in-16
returns-in-16 c arch ps ex holds = rw c.in-16.is (guest_in_order arch ps _ c.if-b-eq12.true)

pub returns-in-17 : goal.returns-in-17
returns-in-17 c arch ps ex holds = rw c.in-17.is (c.policy_row.ensures arch ps ex holds c.if-policy_row.true)
