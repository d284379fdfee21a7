use Rattle.rows.proofs.Kit.{refl, sym, arith, ◌≡◌, length}
use Rattle.lent.proofs.{LentLaws.{first_none, first_more, numbers_all, numbers_kept, word_length}}
use Rattle.lent.proofs.put_numbers.Goals as goal

pub returns-then-b-n : goal.returns-then-b-n
returns-then-b-n c = let a = c.args in numbers_kept a.numbers.now a.b.now c.if-b-n.true

pub loop-k-init : goal.loop-k-init
loop-k-init c = (refl, sym (first_none _ _))

pub loop-k-preserved : goal.loop-k-preserved
loop-k-preserved c =
    let l = c.loop-k in
    let e = c.put_word.ensures in
    (rw (e, word_length) l.invariant.0, rw (e, l.invariant.1) (first_more _ _ _))

pub returns : goal.returns
returns c =
    let l = c.loop-k in
    let a = c.args in
    let z : l.k ≡ length a.numbers.now = omega arith in
    rw (l.invariant.1, z) (numbers_all a.numbers.now a.b.now (omega arith))
