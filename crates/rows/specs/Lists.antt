-- Lists of rows made of others: two joined, one changed row by row, and the rows of one that remain.
use Rattle.std.specs.Prelude.{ℕ, ◌+◌, ◌-◌, Bool, cond, ltb}
use Rattle.std.proofs.Math.Option.{Option, none, some}
use Rattle.rows.specs.Below.{count_below, nth_below}
use Rattle.rows.specs.Rows.{Rows}

-- the rows of xs, then those of ys
abbrev pub joined : {H : Type 0} → Rows H → Rows H → Rows H
joined xs ys = record { count = xs.count + ys.count; row = λ i. cond (ltb i xs.count) (xs.row i) (ys.row (i - xs.count)) }

-- each row changed by f
abbrev pub mapped : {H K : Type 0} → (H → K) → Rows H → Rows K
mapped f xs = record { count = xs.count; row = λ i. f (xs.row i) }

-- the index that was looked for; 0 where there is none
abbrev pub index_or0 : Option ℕ → ℕ
index_or0 none = 0
index_or0 (some i) = i

-- of the indexes below n that remain, number i, from 0
unfoldable pub remaining_index : (ℕ → Bool) → ℕ → ℕ → ℕ
remaining_index remains n i = index_or0 (nth_below n remains i)

-- the rows whose indexes remain, in their order
abbrev pub remaining : {H : Type 0} → (ℕ → Bool) → Rows H → Rows H
remaining remains xs = record { count = count_below xs.count remains; row = λ i. xs.row (remaining_index remains xs.count i) }
