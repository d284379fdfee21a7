-- The rows of a sheet, numbered from 0 here: kind and body length stand in the table of contents, the bodies after it in row order, without gaps.
use Rattle.std.specs.Prelude.{ℕ, ◌+◌, ◌*◌, List, take, drop}
use Rattle.rows.specs.Below.{sum_below}
use Rattle.rows.specs.Rows.{Rows}
use Rattle.le.specs.Le.{le_at}
use Rattle.sheet.specs.Head.{head_of, bodies_at}

unfoldable pub row_kind : List ℕ → ℕ → ℕ
row_kind s k = le_at 4 s (16 + 8 * k)

unfoldable pub row_length : List ℕ → ℕ → ℕ
row_length s k = le_at 4 s (20 + 8 * k)

-- where the body of row k starts
unfoldable pub offset_of : List ℕ → ℕ → ℕ
offset_of s k = bodies_at (head_of s) + sum_below k (row_length s)

unfoldable pub body_of : List ℕ → ℕ → List ℕ
body_of s k = take (row_length s k) (drop (offset_of s k) s)

-- the headers of `count` rows from row `first` on
abbrev pub headers_of : {H : Type 0} → (ℕ → List ℕ → H) → List ℕ → ℕ → ℕ → Rows H
headers_of decode s first count = record { count = count; row = λ i. decode (row_kind s (first + i)) (body_of s (first + i)) }
