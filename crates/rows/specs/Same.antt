-- Lists with the same rows, whatever their functions say past their counts.
use Rattle.std.specs.Prelude.{◌≡◌, ℕ, ◌<◌}
use Rattle.rows.specs.Rows.{Rows}

pub record SameRows {H : Type 0} (xs ys : Rows H) : Type 0 where
  pub count : xs.count ≡ ys.count
  pub row : (i : ℕ) → i < xs.count → xs.row i ≡ ys.row i
