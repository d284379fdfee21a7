use Rattle.rows.proofs.Kit.{◌*◌, ◌≡◌, arith, refl, sym, length-set}
use Rattle.lent.proofs.{LentLaws.{put_none, clear_more, clear_all}}
use Rattle.lent.proofs.clear_words.Goals as goal

pub loop-i-init : goal.loop-i-init
loop-i-init c = (refl, sym (put_none _ _ _))

pub loop-i-preserved : goal.loop-i-preserved
loop-i-preserved c = let l = c.loop-i in (simp length-set l.invariant.0, rw l.invariant.1 (clear_more _ _))

pub returns : goal.returns
returns c = let l = c.loop-i in let z : l.i ≡ 8 * c.args.n = omega arith in rw (l.invariant.1, z) (clear_all _ _)
