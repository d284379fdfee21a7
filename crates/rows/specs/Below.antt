-- What holds of the indexes below a count. Each definition says at n + 1 what it says at n and what index n adds, as a loop that goes up.
use Rattle.std.specs.Prelude.{Bool, false, cond, ◌&&◌, ◌||◌, ℕ, zero, suc, ◌+◌, eqb}
use Rattle.std.proofs.Math.Option.{Option, none, some}

-- some index below n passes
unfoldable pub any_below : ℕ → (ℕ → Bool) → Bool
any_below zero p = false
any_below (suc n) p = any_below n p || p n

-- the index that is there, else the other
abbrev pub or_later : Option ℕ → Option ℕ → Option ℕ
or_later none o = o
or_later (some i) o = some i

-- the first index below n that passes
unfoldable pub first_below : ℕ → (ℕ → Bool) → Option ℕ
first_below zero p = none
first_below (suc n) p = or_later (first_below n p) (cond (p n) (some n) none)

-- the last index below n that passes
unfoldable pub last_below : ℕ → (ℕ → Bool) → Option ℕ
last_below zero p = none
last_below (suc n) p = cond (p n) (some n) (last_below n p)

-- the sum of the numbers at the indexes below n
unfoldable pub sum_below : ℕ → (ℕ → ℕ) → ℕ
sum_below zero f = 0
sum_below (suc n) f = sum_below n f + f n

-- how many indexes below n pass
abbrev pub count_below : ℕ → (ℕ → Bool) → ℕ
count_below n p = sum_below n (λ i. cond (p i) 1 0)

-- the index below n that passes and has k indexes before it that pass
unfoldable pub nth_below : ℕ → (ℕ → Bool) → ℕ → Option ℕ
nth_below zero p k = none
nth_below (suc n) p k = cond (p n && eqb (count_below n p) k) (some n) (nth_below n p k)
