use Rattle.lent.proofs.{LentLaws.put_word}
use Rattle.lent.proofs.put_word.Goals as goal

pub returns : goal.returns
returns c = put_word c.args.w c.args.v c.args.b.now
