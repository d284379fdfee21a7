-- A table's rule, proved at all of its entries at once: the table is what a function says of 0, 1, .., which antt computes; and what a
-- lookup past every span gives.
use native.Mathlib.Nat.{suc-add, lt_of_lt_of_le}
use lib.Dec.{ltb→lt}
use Rattle.rows.proofs.Kit.{◌≡◌, refl, ◌∙◌, ap, sym, Bool, true, false, ◌&&◌, and-false, List, [], ◌∷◌, ℕ, zero, suc, ◌+◌, ◌<◌, ◌≤◌, zero-add, add-zero, add-suc, le_of_suc-le-suc, not-suc-le-zero, T, ltb, leb, get_or, lt-leb}
use Rattle.std.proofs.Math.ListN.{get_or-map}
use Rattle.std.proofs.Common.{map}
use Rattle.igvm_defs.specs.Kinds.{Span, lookup, no_kind}

module _ {A : Type 0} (f : ℕ → A) where
  -- f i, f (i + 1), .., n of them
  abbrev pub tabulate : ℕ → ℕ → List A
  tabulate zero i = []
  tabulate (suc n) i = f i ∷ tabulate n (suc i)

  from : (n i k : ℕ) → k < n → (d : A) → get_or (tabulate n i) k d ≡ f (i + k)
  from zero i k h d = absurd (not-suc-le-zero h)
  from (suc n) i zero h d = ap f (sym (add-zero i))
  from (suc n) i (suc k) h d = from n (suc i) k (le_of_suc-le-suc h) d ∙ ap f (suc-add i k ∙ sym (add-suc i k))

  pub at : (n k : ℕ) → k < n → (d : A) → get_or (tabulate n 0) k d ≡ f k
  at n k h d = from n 0 k h d ∙ ap f (zero-add k)

  -- the same of a table whose entries say what f does
  pub said_at : {B : Type 0} (says : B → A) (xs : List B) (d : B) (n k : ℕ) → map says xs ≡ tabulate n 0 → k < n → says (get_or xs k d) ≡ f k
  said_at says xs d n k e h = sym (get_or-map says xs k d) ∙ ap (λ (ys : List A). get_or ys k (says d)) e ∙ at n k h (says d)

left : (a b : Bool) → T (a && b) → T a
left true b t = tt
left false b t = t

right : (a b : Bool) → T (a && b) → T b
right true b t = t
right false b t = absurd t

-- every span ends below n
abbrev pub ends_below : ℕ → List Span → Bool
ends_below n [] = true
ends_below n (x ∷ xs) = ltb x.last n && ends_below n xs

pub past : (n k : ℕ) → n ≤ k → (xs : List Span) → T (ends_below n xs) → lookup xs k ≡ no_kind
past n k h [] t = refl
past n k h (x ∷ xs) t =
    let b : leb k x.last ≡ false = lt-leb _ _ (lt_of_lt_of_le (ltb→lt _ _ (left (ltb x.last n) (ends_below n xs) t)) h) in
    rw (b, and-false) (past n k h xs (right (ltb x.last n) (ends_below n xs) t))
