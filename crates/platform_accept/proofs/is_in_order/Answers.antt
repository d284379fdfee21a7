use Rattle.platform_accept.proofs.PlatformLaws.{in_order_says}
use Rattle.platform_accept.proofs.is_in_order.Goals as goal

pub returns : goal.returns
returns c a e t = in_order_says a c.args.x64 c.args.h e (rw c.is_one_bit.ensures at t)
