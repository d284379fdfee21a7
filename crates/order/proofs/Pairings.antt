-- Two pairings of rows, for the examples.
use Rattle.rows.proofs.Kit.{◌≡◌, refl, List, ℕ, zero, suc, ◌+◌, ◌<◌, arith, take}
use Rattle.igvm_defs.{specs.Kinds.fields, proofs.Runs.{All, each}}
use Rattle.sheet.specs.Table.{row_kind, row_length, body_of}
use Rattle.order.specs.Reordered.{Alike, PairedRows}

-- the first two rows exchanged
abbrev pub swap : ℕ → ℕ
swap zero = 1
swap (suc zero) = 0
swap (suc (suc n)) = suc (suc n)

pub swap_below : (n i : ℕ) → i < suc (suc n) → swap i < suc (suc n)
swap_below n zero l = omega arith
swap_below n (suc zero) l = omega arith
swap_below n (suc (suc i)) l = l

pub swap_twice : (i : ℕ) → swap (swap i) ≡ i
swap_twice zero = refl
swap_twice (suc zero) = refl
swap_twice (suc (suc i)) = refl

-- of two other rows the first stays the first
pub swap_keeps : (i j : ℕ) → i < j → (i ≡ 0 → j ≡ 1 → ⊥) → swap i < swap j
swap_keeps zero zero l n = absurd (omega arith)
swap_keeps zero (suc zero) l n = absurd (n refl refl)
swap_keeps zero (suc (suc j)) l n = omega arith
swap_keeps (suc i) zero l n = absurd (omega arith)
swap_keeps (suc i) (suc zero) l n = absurd (omega arith)
swap_keeps (suc zero) (suc (suc j)) l n = omega arith
swap_keeps (suc (suc i)) (suc (suc j)) l n = l

abbrev pub alike : {a b : List ℕ} {k m : ℕ} → row_kind b m ≡ row_kind a k → row_length b m ≡ row_length a k
    → take (fields (row_kind a k)) (body_of b m) ≡ take (fields (row_kind a k)) (body_of a k) → Alike a b k m
alike kind long fields = record { kind = kind; body_length = long; body_fields = fields }

module _ {a b : List ℕ} {Tied : ℕ → ℕ → Type 0} {first : ℕ} where
  -- every row in its place
  abbrev pub unmoved : (count : ℕ) → All (λ i. Alike a b (first + i) (first + i)) 0 count → PairedRows a b Tied first count
  unmoved count rows =
      record {
        to = λ i. i;
        from = λ i. i;
        to_below = λ i l. l;
        from_below = λ i l. l;
        from_to = λ i l. refl;
        to_from = λ i l. refl;
        alike = λ i l. each (λ i. Alike a b (first + i) (first + i)) 0 count rows i (omega arith) (omega arith);
        keeps = λ i j l m t. l;
      }

  -- the first two of two rows or more, which are not tied
  abbrev pub exchanged : (n : ℕ) → All (λ i. Alike a b (first + i) (first + swap i)) 0 (suc (suc n)) → (Tied (first + 0) (first + 1) → ⊥)
      → PairedRows a b Tied first (suc (suc n))
  exchanged n rows untied =
      record {
        to = swap;
        from = swap;
        to_below = swap_below n;
        from_below = swap_below n;
        from_to = λ i l. rw swap_twice;
        to_from = λ i l. rw swap_twice;
        alike = λ i l. each (λ i. Alike a b (first + i) (first + swap i)) 0 (suc (suc n)) rows i (omega arith) (omega arith);
        keeps = λ i j l m t. swap_keeps i j l (λ e f. untied (rw (e, f) at t));
      }
