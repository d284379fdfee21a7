use Rattle.rows.proofs.Kit.{ℕ, ap, cond, ◌&&◌, eqb}
use Rattle.area_table.proofs.{AreaTableLaws.holds_same}
use Rattle.area_table.proofs.AreaTable.change.Goals as goal

pub returns-clause-by_index : goal.returns-clause-by_index
returns-clause-by_index g c = λ f h.
    holds_same (c.change_code.ensures.by_index f h) (λ x. ap (λ (n : ℕ). cond (c.change_code.result && eqb x c.args.area) n (f x)) c.code-2.ensures)
