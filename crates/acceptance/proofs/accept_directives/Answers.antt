use Rattle.rows.{proofs.Bools.or_false_parts, proofs.Kit.{◌≤◌, ltb-false, arith, sym, ◌∙◌}}
use Rattle.directive_pass.proofs.DirectivePass.{holds_tables}
use Rattle.acceptance.proofs.{AcceptanceLaws.{table_room, all_none}}
use Rattle.acceptance.proofs.accept_directives.Goals as goal

pub accept-at-requires : goal.accept-at-requires
accept-at-requires g c =
    let (start, rows, x64) = c.requires.s_value in let (lists, count, contexts) = c.requires.lists_accepted in
    (omega arith, ((table_room _ start, rows, x64), ((count, holds_tables _ _ lists.holds), (lists.read, lists.row, contexts))))

-- where rows and bytes are all read, the place is behind the last row and the last byte
pub returns : goal.returns
returns g c =
    let (r, b) = or_false_parts _ _ c.if-at-rows.false in
    let (rows, three) = c.accept-at.ensures in
    let l : c.args.rows ≤ c.accept-at.result.row = ltb-false _ _ r in
    all_none _ _ _ _ _ c.requires.lists_accepted.0 rows (omega (arith, c.requires.s_value)) (ltb-false _ _ b) three (sym c.any_lacks.ensures ∙ c.if-any_lacks.false)
