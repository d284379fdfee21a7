use Rattle.rows.proofs.Kit.{arith}
use Rattle.area_table.proofs.{AreaTableLaws.{holds_self, holds_put_new}}
use Rattle.area_table.proofs.AreaTable.add.Goals as goal

pub invariant_of-self : goal.invariant_of-self
invariant_of-self g c =
    let (place, in_bounds, large) = c.requires.place in
    let (empty, room) = c.requires.empty in
    record { tree = (holds_put_new _ _ _ _ _ (holds_self {few = c.args.self.now.few} (omega arith) c.args.self.now.tree) _ _ large _ place empty (omega arith)).tree }

pub returns : goal.returns
returns g c = λ f h.
    let (place, in_bounds, large) = c.requires.place in
    let (empty, room) = c.requires.empty in
    holds_put_new _ _ _ _ f h _ _ large _ place empty (omega arith)
