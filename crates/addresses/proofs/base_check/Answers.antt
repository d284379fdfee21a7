use Rattle.addresses.proofs.{BaseCheckLaws.in_order}
use Rattle.addresses.proofs.base_check.Goals as goal

-- the answers chosen are those of the definition's tests, in its order
pub returns : goal.returns
returns c =
    let b = c in
    in_order _ _ _ _ _ b.before_end-above.ensures b.is_multiple.ensures b.answer_if.ensures c.answer_if-2.ensures c.answer_if-3.ensures
