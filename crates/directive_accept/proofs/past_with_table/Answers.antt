use Rattle.rows.proofs.Kit.{rules}
use Rattle.directive_accept.proofs.{NamedLaws.named_first}
use Rattle.directive_accept.proofs.past_with_table.Goals as goal

pub past_named-requires : goal.past_named-requires
past_named-requires g c =
    (search rules, (search rules, (c.requires.s_in_bounds, (c.requires.holds_tables, named_first _ _ _ _ c.new-areas.ensures c.requires.plain_accepted))))
