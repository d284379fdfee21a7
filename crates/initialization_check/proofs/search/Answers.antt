use Rattle.rows.proofs.Kit.{refl, false≢true, sym, ◌∙◌, rules}
use Rattle.initialization_check.proofs.search.Goals as goal

pub search-requires : goal.search-requires
search-requires g c = let o = c.requires.2 in let b = c.begin-from.ensures c.args.regions.now.size o in let by = o.order in search rules

pub returns-in-Some : goal.returns-in-Some
returns-in-Some g c =
    let (apart, at) = c.in-Some.ensures in let o = c.requires.2 in
    (refl, record { met = λ t. absurd (false≢true (sym apart ∙ t)); free = λ _. at }, (c.begin-from.ensures c.args.regions.now.size o).0)

pub returns-in-None : goal.returns-in-None
returns-in-None g c =
    let met = c.in-None.ensures in let o = c.requires.2 in
    (refl, record { met = λ _. refl; free = λ f. absurd (false≢true (sym f ∙ met)) }, (c.begin-from.ensures c.args.regions.now.size o).0)
