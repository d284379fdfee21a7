-- A list of rows: how many there are, and the row at each index.
use Rattle.std.specs.Prelude.{Bool, true, false, cond, ◌≢◌, ◌≡◌, ℕ, suc, ◌-◌, ◌<◌, eqb, ltb}
use Rattle.std.proofs.Math.Option.{Option, none, some}
use Rattle.rows.specs.Below.{any_below, last_below, count_below, nth_below}

pub record Rows (H : Type 0) : Type 0 where
  pub count : ℕ
  pub row : ℕ → H

module _ {H : Type 0} where
  -- some row passes
  abbrev pub any : (H → Bool) → Rows H → Bool
  any p xs = any_below xs.count (λ i. p (xs.row i))

  -- the row at an index that was looked for
  abbrev pub row_at : Rows H → Option ℕ → Option H
  row_at xs none = none
  row_at xs (some i) = some (xs.row i)

  -- the last row that passes
  abbrev pub last : (H → Bool) → Rows H → Option H
  last p xs = row_at xs (last_below xs.count (λ i. p (xs.row i)))

  -- the rows before index i
  abbrev pub before : ℕ → Rows H → Rows H
  before i xs = record { count = i; row = xs.row }

  -- the rows, and one row more behind them
  abbrev pub more : Rows H → H → Rows H
  more xs x = record { count = suc xs.count; row = λ i. cond (eqb i xs.count) x (xs.row i) }

  -- the rows without row m
  abbrev pub without : ℕ → Rows H → Rows H
  without m xs = record { count = xs.count - 1; row = λ i. cond (ltb i m) (xs.row i) (xs.row (suc i)) }

  -- how many rows pass
  abbrev pub count_of : (H → Bool) → Rows H → ℕ
  count_of p xs = count_below xs.count (λ i. p (xs.row i))

  -- the row that passes and has k rows before it that pass
  abbrev pub nth : (H → Bool) → Rows H → ℕ → Option H
  nth p xs k = row_at xs (nth_below xs.count (λ i. p (xs.row i)) k)

  -- no two rows clash
  abbrev pub Apart : (H → H → Bool) → Rows H → Type 0
  Apart clash xs = (i j : ℕ) → i < xs.count → j < xs.count → i ≢ j → clash (xs.row i) (xs.row j) ≡ false

  -- at most one row passes
  abbrev pub Once : (H → Bool) → Rows H → Type 0
  Once p xs = (i j : ℕ) → i < xs.count → j < xs.count → p (xs.row i) ≡ true → p (xs.row j) ≡ true → i ≡ j
