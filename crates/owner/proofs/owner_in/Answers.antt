use Rattle.owner.proofs.{OwnerLaws.{kept_owner}}
use Rattle.owner.proofs.owner_in.Goals as goal

pub returns : goal.returns
returns g c =
    let (passed, stands) = c.in_ok-keep_for.ensures in
    (passed, rw c.owner.ensures (kept_owner c.args.s.now c.args.given c.keep_for.new.kept stands.kept_for c.args.gpa))
