use Rattle.masks.proofs.MaskLaws.{or_nonzero}
use Rattle.contexts.proofs.four_lack.Goals as goal

pub returns : goal.returns
returns g c contexts absent =
    let first = c.bits_lacking-first in
    let second = c.bits_lacking-second in
    let third = c.bits_lacking-third in
    let fourth = c.bits_lacking-fourth in
    rw (
      or_nonzero _ fourth.result,
      or_nonzero _ third.result,
      or_nonzero first.result second.result,
      first.ensures contexts absent,
      second.ensures contexts absent,
      third.ensures contexts absent,
      fourth.ensures contexts absent,
    )
