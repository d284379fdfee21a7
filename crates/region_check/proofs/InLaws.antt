-- The lookup in words: the ways in which it ends, and how it goes on.
use Rattle.rows.{proofs.Kit.{◌≡◌, Bool, true, false, List, ℕ, ◌+◌, ◌/◌, ◌≤◌, ◌<◌, arith, dec_lt, ltb, lt-ltb, le-ltb, length}, proofs.Bools.{or_right, or_both_false}, proofs.BelowLaws.{first_none, first_at}}
use Rattle.addresses.specs.Addresses.{contains}
use Rattle.answers.specs.Owner.{start_in, size_in, row_in, ends_at, region_in}

-- region i contains the address
abbrev pub holds_in : List ℕ → ℕ → ℕ → Bool
holds_in words gpa i = contains (start_in words i) (size_in words i) gpa

module _ (words : List ℕ) (gpa : ℕ) where
  pub ends_none : ((j : ℕ) → j < length words / 24 → ends_at words gpa j ≡ false) → 0 ≡ region_in words gpa
  unfolding region_in
  ends_none h = rw ((first_none (length words / 24) (ends_at words gpa)).1 h)

  module _ (i : ℕ) (l : i < length words / 24) (earlier : (j : ℕ) → j < i → ends_at words gpa j ≡ false) where
    pub ends_above : gpa < start_in words i → 0 ≡ region_in words gpa
    unfolding region_in
    ends_above a =
        let t : ltb gpa (start_in words i) ≡ true = lt-ltb gpa (start_in words i) a in
        let e : ends_at words gpa i ≡ true = rw t in
        rw (first_at (length words / 24) (ends_at words gpa) i l earlier e, t)

    pub ends_inside : start_in words i ≤ gpa → holds_in words gpa i ≡ true → row_in words i ≡ region_in words gpa
    unfolding region_in
    ends_inside a b =
        let t : ltb gpa (start_in words i) ≡ false = le-ltb gpa (start_in words i) a in
        let e : ends_at words gpa i ≡ true = or_right (ltb gpa (start_in words i)) (holds_in words gpa i) b in
        rw (first_at (length words / 24) (ends_at words gpa) i l earlier e, t)

    pub goes_on : start_in words i ≤ gpa → holds_in words gpa i ≡ false → (j : ℕ) → j < i + 1 → ends_at words gpa j ≡ false
    goes_on a b j h = go (dec_lt j i)
      where
        here : ends_at words gpa i ≡ false
        here = or_both_false (ltb gpa (start_in words i)) (holds_in words gpa i) (le-ltb gpa (start_in words i) a) b

        go : Dec (j < i) → ends_at words gpa j ≡ false
        go (yes m) = earlier j m
        go (no m) = let q : j ≡ i = omega arith in rw q here
