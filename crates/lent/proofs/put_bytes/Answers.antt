use Rattle.rows.proofs.Kit.{refl, sym, length-set}
use Rattle.le.specs.Le.{byte_at}
use Rattle.lent.proofs.{LentLaws.{put_none, byte_more}}
use Rattle.lent.proofs.put_bytes.Goals as goal

pub loop-i-init : goal.loop-i-init
loop-i-init c = (refl, sym (put_none _ _ _))

pub loop-i-preserved : goal.loop-i-preserved
loop-i-preserved c =
    let l = c.loop-i in
    (simp length-set l.invariant.0, rw l.invariant.1 (byte_more _ (λ j. byte_at c.args.from.now j) _))
