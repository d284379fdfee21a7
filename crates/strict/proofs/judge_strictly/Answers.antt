use Rattle.sheet_headers.specs.Headers.{sheet_headers}
use Rattle.strict.proofs.KeptLaws.{strict_later}
use Rattle.strict.proofs.judge_strictly.Goals as goal

pub returns : goal.returns
unfolding sheet_headers
returns g c =
    let s = c.args.s.now in let (v, k) = c.in_ok-judge.ensures in
    rw (strict_later s v) (c.validate_contexts.ensures (sheet_headers s) k.regions k.rows k.masks)
