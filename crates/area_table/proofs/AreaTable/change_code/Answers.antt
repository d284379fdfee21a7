use Rattle.rows.proofs.Kit.{◌≡◌, refl, sym, ◌∙◌, arith, List, ℕ, ◌≤◌, eq-eqb, ne_eqb, rules}
use Rattle.area_table.specs.AreaTable.{PlaceOf, state_at, state_in}
use Rattle.area_table.proofs.{AreaTableLaws.{state_few, state_place, state_none, room_told, holds_put_few, holds_put_node}}
use Rattle.area_table.proofs.AreaTable.change_code.Goals as goal

-- what is found at the area's place
found : (few links areas states : List ℕ) (area p : ℕ) → 1024 ≤ area → PlaceOf links areas area p → (number : ℕ) → number ≡ state_at links states p
    → number ≡ state_in few links areas states area
found few links areas states area p large place number at = at ∙ sym (state_place few links areas states area large p place.is)

-- an area that has a place of its own
pub returns-then-self-a-clause-value : goal.returns-then-self-a-clause-value
returns-then-self-a-clause-value g c = sym (ne_eqb _ _ (λ e. c.if-self-a.true (sym (state_few c.args.self.now.few _ _ _ c.args.area c.if-a-lt-FEW.true) ∙ e)))

pub returns-then-a-lt-FEW-clause-value : goal.returns-then-a-lt-FEW-clause-value
returns-then-a-lt-FEW-clause-value g c = sym (eq-eqb _ _ (state_few c.args.self.now.few _ _ _ c.args.area c.if-a-lt-FEW.true ∙ c.if-self-a.false))

pub returns-then-a-lt-FEW-clause-by_index : goal.returns-then-a-lt-FEW-clause-by_index
returns-then-a-lt-FEW-clause-by_index g c = λ f h. holds_put_few _ _ _ _ f h _ _ c.if-a-lt-FEW.true

-- one that no look finds
pub returns-in_default-clause-value : goal.returns-in_default-clause-value
returns-in_default-clause-value g c =
    let a = c.args.self.now in
    let three : state_in a.few a.links a.areas a.states c.args.area ≡ 3 = state_place a.few a.links a.areas a.states c.args.area c.if-a-lt-FEW.false _ (sym c.in_default.ensures) ∙ state_none a.links a.states _ refl in
    sym (ne_eqb _ _ (λ e. c.requires (sym e ∙ three)))

-- one of which the table has another number
pub returns-then-state_at-from-clause-value : goal.returns-then-state_at-from-clause-value
returns-then-state_at-from-clause-value g c =
    sym (ne_eqb _ _ (λ e. c.if-state_at-from.true (found c.args.self.now.few _ _ _ _ _ c.if-a-lt-FEW.false c.in-Some.ensures.0 _ c.state_at.ensures ∙ e)))

pub add-requires : goal.add-requires
add-requires g c =
    let (place, in_bounds) = c.in-Some.ensures in
    let room = room_told _ _ _ (λ three. c.requires (sym c.if-state_at-from.false ∙ c.state_at.ensures ∙ three)) c.if-k-ne0.false in
    (search rules, ((place, in_bounds, c.if-a-lt-FEW.false), (c.if-k-ne0.false, omega (arith, room))))

pub returns-then-k-ne0-clause-value : goal.returns-then-k-ne0-clause-value
returns-then-k-ne0-clause-value g c =
    sym (eq-eqb _ _ (sym (found c.args.self.now.few _ _ _ _ _ c.if-a-lt-FEW.false c.in-Some.ensures.0 _ c.state_at.ensures) ∙ c.if-state_at-from.false))

pub returns-then-k-ne0-clause-by_index : goal.returns-then-k-ne0-clause-by_index
returns-then-k-ne0-clause-by_index g c = λ f h. holds_put_node _ _ _ _ f h _ _ c.if-a-lt-FEW.false _ c.in-Some.ensures.0 c.if-k-ne0.true

pub returns-else-k-ne0-clause-value : goal.returns-else-k-ne0-clause-value
returns-else-k-ne0-clause-value g c =
    sym (eq-eqb _ _ (sym (found c.args.self.now.few _ _ _ _ _ c.if-a-lt-FEW.false c.in-Some.ensures.0 _ c.state_at.ensures) ∙ c.if-state_at-from.false))
