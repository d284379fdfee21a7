use Rattle.rows.proofs.Kit.{◌<◌, ◌≡◌, refl, sym, arith}
use Rattle.lent.proofs.{LentLaws.{lead_none, lead_more, lead_all, word_length}}
use Rattle.lent.proofs.put_words.Goals as goal

pub loop-k-init : goal.loop-k-init
loop-k-init c = (refl, sym (lead_none _ _ _))

pub loop-k-preserved : goal.loop-k-preserved
loop-k-preserved c =
    let l = c.loop-k in
    let h : l.k < 8 = omega arith in
    let e = c.put_word.ensures in
    (rw (e, word_length) l.invariant.0, rw (e, l.invariant.1) (lead_more _ _ _ _ h))

pub returns : goal.returns
returns c = let l = c.loop-k in let z : l.k ≡ 8 = omega arith in rw (l.invariant.1, z) (lead_all _ _ _)
