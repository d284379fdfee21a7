use Rattle.rows.proofs.Kit.{refl, sym, ◌∙◌, rules}
use Rattle.by_start.proofs.LinkLaws.{placed_within}
use Rattle.initialization_accept.proofs.RowsLaws.{kept_behind}
use Rattle.initialization_accept.proofs.keep_region.Goals as goal

pub search-requires : goal.search-requires
search-requires g c =
    let o = c.requires.ordered in let (n, small, more) = c.requires.room in let b = c.begin-from.ensures c.args.kept.now.regions.size o in let by = o.order in
    search rules

pub insert-requires : goal.insert-requires
insert-requires g c =
    let (n, small, more) = c.requires.room in let w = placed_within c.requires.ordered.order c.in-Some.ensures.1 in
    search rules

pub returns-in-Some : goal.returns-in-Some
returns-in-Some g c =
    let (n, small, more) = c.requires.room in let k = c.args.kept.now in
    kept_behind k _ c.args.region c.args.number c.in-Some.at c.begin-from.result n more c.requires.ordered (sym c.any_tables_share-shares.ensures ∙ c.if-not-shares.true)
    c.in-Some.ensures (c.begin-from.ensures k.regions.size c.requires.ordered).0 c.push.ensures.pushed refl c.insert.ensures.next c.insert.ensures.more
    (c.push.ensures.lengths, search rules, c.insert.ensures.lengths)
