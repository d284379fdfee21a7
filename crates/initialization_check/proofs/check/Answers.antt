use Rattle.rows.proofs.Kit.{◌≡◌, sym, ◌∙◌}
use Rattle.by_start.proofs.OrderedLaws.{search_tells}
use Rattle.initialization_check.proofs.check.Goals as goal

pub returns-in-Some-clause-stepped : goal.returns-in-Some-clause-stepped
returns-in-Some-clause-stepped g c ps earlier hp held =
    let (is, searched, _) = c.search-new.ensures in let order = c.requires.3 in
    let region = sym c.in-Some.ensures in
    record {
      fault =
          c.row_fault-told.ensures.told ps earlier hp region
          (λ new e. let same : c.in-Some.region ≡ new = cc in
          rw (← same) (c.any_tables_share-shares.ensures ∙ held.tables_share_lem c.in-Some.region, search_tells order.order searched ∙ held.overlaps c.in-Some.region));
      region = rw is region;
    }
