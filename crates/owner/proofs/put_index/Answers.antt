use Rattle.rows.proofs.Kit.{sym, ◌∙◌}
use Rattle.owner.proofs.{FillLaws.{filled_none, fill_room, fill_small, fill_on}}
use Rattle.owner.proofs.put_index.Goals as goal

pub loop-i-init : goal.loop-i-init
loop-i-init g c = filled_none c.args.kept.now c.args.given c.args.words.now c.requires.by_start.0

pub put_region-k-requires : goal.put_region-k-requires
put_region-k-requires g c =
    let f = c.loop-i.invariant in
    (λ m. fill_room f c.loop-i-test.true c.requires.by_start.1 (sym c.matches.ensures ∙ m), fill_small f c.loop-i-test.true c.requires.in_bounds.2)

pub loop-i-preserved : goal.loop-i-preserved
loop-i-preserved g c =
    rw (c.put_region-k.ensures.value, c.put_region-k.ensures.words_after) (fill_on c.loop-i.invariant c.loop-i-test.true c.matches.result c.matches.ensures)
