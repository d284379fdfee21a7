use Rattle.rows.proofs.Kit.{sym, arith}
use Rattle.addresses.proofs.{PowerLaws.{zero_no_power, power_test}}
use Rattle.addresses.proofs.is_power_of_two.Goals as goal

pub returns-then-a-eq0 : goal.returns-then-a-eq0
returns-then-a-eq0 c = rw c.if-a-eq0.true (sym zero_no_power)

pub returns : goal.returns
returns c = let n = c.if-a-eq0.false in power_test c.args.a (omega arith) (omega arith)
