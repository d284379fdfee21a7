use Rattle.rows.proofs.Kit.{◌≤◌, rules}
use Rattle.contexts.specs.Contexts.{bit_lacking}
use Rattle.contexts.proofs.{LackingLaws.absent_found}
use Rattle.contexts.proofs.bits_lacking.Goals as goal

pub returns : goal.returns
unfolding bit_lacking
returns c contexts absent =
    let a = c.args in
    let (held, e) = absent a.vtl c.requires in
    let most : a.mask ≤ 4294967295 = search rules in
    rw e (absent_found a.mask _ most held)
