-- Two lists of rows that pair off one to one; and a list whose rows all stand in another.
use Rattle.std.specs.Prelude.{◌≡◌, ℕ, ◌<◌}
use Rattle.rows.specs.Rows.{Rows}

-- The rows of xs and ys pair off one to one: row i of xs with row `to i` of ys. H holds what paired rows must have in common (of headers: kind,
-- body length and fields), and `Tied x y` says which rows stand in the same order in both.
pub record Paired {H : Type 0} (Tied : H → H → Type 0) (xs ys : Rows H) : Type 0 where
  pub to : ℕ → ℕ
  pub from : ℕ → ℕ
  -- every row of either list is in a pair
  pub to_below : (i : ℕ) → i < xs.count → to i < ys.count
  pub from_below : (j : ℕ) → j < ys.count → from j < xs.count
  -- and in one only
  pub from_to : (i : ℕ) → i < xs.count → from (to i) ≡ i
  pub to_from : (j : ℕ) → j < ys.count → to (from j) ≡ j
  -- paired rows are equal
  pub same : (i : ℕ) → i < xs.count → ys.row (to i) ≡ xs.row i
  -- tied rows stand in the same order in both lists
  pub keeps : (i j : ℕ) → i < j → j < xs.count → Tied (xs.row i) (xs.row j) → to i < to j

-- One way only: row i of xs is row `to i` of ys, no two are the same one, and rows of ys may be left over.
pub record Into {H : Type 0} (Tied : H → H → Type 0) (xs ys : Rows H) : Type 0 where
  pub to : ℕ → ℕ
  pub to_below : (i : ℕ) → i < xs.count → to i < ys.count
  pub one_to_one : (i j : ℕ) → i < xs.count → j < xs.count → to i ≡ to j → i ≡ j
  pub same : (i : ℕ) → i < xs.count → ys.row (to i) ≡ xs.row i
  pub keeps : (i j : ℕ) → i < j → j < xs.count → Tied (xs.row i) (xs.row j) → to i < to j

-- no two rows are tied
abbrev pub Free : {H : Type 0} → H → H → Type 0
Free x y = ⊥
