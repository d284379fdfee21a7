use Rattle.region_words.proofs.{WordLaws.body_words}
use Rattle.region_words.proofs.words_of.Goals as goal

pub returns : goal.returns
returns c =
    rw (
      c.u64_at.ensures,
      c.u64_at-2.ensures,
      c.u64_at-3.ensures,
      c.u64_at-4.ensures,
      c.u64_at-5.ensures,
      c.u16_at.ensures,
    ) (body_words c.args.b.now c.requires.1 c.requires.2)
