-- What a table says of an area, and what it holds.
use Rattle.std.specs.Prelude.{ℕ}
use Rattle.area_table.specs.declared.AreaTable.{AreaTable}
use Rattle.area_table.specs.AreaTable.{state_in, HoldsAreas}

-- what is known of an area
abbrev pub state_by : {LINKS NODES : ℕ} → AreaTable LINKS NODES → ℕ → ℕ
state_by t area = state_in t.few t.links t.areas t.states area

-- f says of every area what is known of it, wherever the table can tell
abbrev pub Knows : {LINKS NODES : ℕ} → AreaTable LINKS NODES → (ℕ → ℕ) → Type 0
Knows t f = HoldsAreas t.few t.links t.areas t.states f
