use Rattle.rows.proofs.Kit.{length, lt-leb, le-leb}
use Rattle.answers.specs.Region.{region_of}
use Rattle.region_check.proofs.region.Goals as goal

pub returns-then-b-lt64 : goal.returns-then-b-lt64
unfolding region_of
returns-then-b-lt64 c = rw (lt-leb 64 (length c.args.b.now) c.if-b-lt64.true)

pub returns : goal.returns
unfolding region_of
returns c =
    rw (
      le-leb 64 (length c.args.b.now) c.if-b-lt64.false,
      c.u64_at.ensures,
      c.u64_at-2.ensures,
      c.u64_at-3.ensures,
      c.u64_at-4.ensures,
      c.u64_at-5.ensures,
      c.u64_at-6.ensures,
      c.u64_at-7.ensures,
      c.u64_at-8.ensures,
    )
