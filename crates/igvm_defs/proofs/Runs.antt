-- Runs of numbers: a law for each number of a run.
use Rattle.rows.proofs.Kit.{inl, inr, ℕ, zero, suc, ◌+◌, ◌<◌, ◌≤◌, eq-or-lt_of_le, arith}

-- a law for each of a, .., a + n - 1, from its proofs: (proof at a) ⨾ .. ⨾ (proof at a + n - 1) ⨾ tt
infixr 5 ◌⨾◌
abbrev pub ◌⨾◌ : {A B : Type 0} → A → B → A × B
a ⨾ b = (a, b)

abbrev pub All : (ℕ → Type 0) → ℕ → ℕ → Type 0
All P a zero = Unit
All P a (suc n) = P a × All P (suc a) n

pub each : (P : ℕ → Type 0) (a n : ℕ) → All P a n → (k : ℕ) → a ≤ k → k < a + n → P k
each P a zero t k h l = absurd (omega arith)
each P a (suc n) t k h l = elim (eq-or-lt_of_le h) [ inl e ↦ rw (← e) t.0 | inr m ↦ each P (suc a) n t.1 k m (omega arith) ]
