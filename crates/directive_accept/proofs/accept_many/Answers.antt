use Rattle.rows.proofs.Kit.{arith, refl, rules}
use Rattle.directive_accept.proofs.{NamedLaws.none_first}
use Rattle.directive_accept.proofs.accept_many.Goals as goal

pub past_with_table-requires : goal.past_with_table-requires
past_with_table-requires g c =
    let q = c.requires.read_to in
    (search rules, (c.requires.s_in_bounds, (c.requires.holds_tables, (none_first _ _ q.1 _ q.0 q.2, (refl, omega arith, omega arith)))))
