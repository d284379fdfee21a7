use Rattle.rows.proofs.Kit.{rules}
use Rattle.directive_accept.proofs.{NamedLaws.{rows_first, plain_first}}
use Rattle.directive_accept.proofs.accept.Goals as goal

pub past_plain-c-requires : goal.past_plain-c-requires
past_plain-c-requires g c =
    let q = c.requires.read_to in record { s_in_bounds = c.requires.s_in_bounds; directives_accepted = rows_first _ _ q.1 _ q.0 q.2 }

pub past_areas-requires : goal.past_areas-requires
past_areas-requires g c =
    (search rules, (c.requires.s_in_bounds, (c.requires.holds_tables, plain_first _ _ c.requires.read_to.1 _ _ c.past_plain-c.ensures)))
