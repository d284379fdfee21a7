use Rattle.rows.proofs.Kit.{arith, sym, ◌∙◌}
use Rattle.area_tree.proofs.{AreaTreeLaws.{told_none, holds_insert}}
use Rattle.area_tree.proofs.insert.Goals as goal

pub returns-then-k-eq0 : goal.returns-then-k-eq0
returns-then-k-eq0 c =
    λ count f h one. absurd (omega (arith, one, told_none h _ _ (omega arith) c.place_of.ensures.0 (sym c.if-k-eq0.true ∙ c.node_at-k.ensures.0)))

pub returns : goal.returns
returns c = λ count f h one. holds_insert h _ _ _ (omega arith) c.place_of.ensures.0 c.node_at-k.ensures.0 (λ z. omega arith)
