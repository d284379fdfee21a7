-- Laws of body lengths.
use Rattle.rows.{proofs.Bools.which, proofs.Kit.{inl, inr, ◌≡◌, true, ℕ, ◌≤◌, arith, leb-true, eqb-true}}
use Rattle.igvm_defs.specs.{Kinds.{Kind, length_ok}}

-- a length that the kind allows is at least its least
pub length_least : (t : Kind) (n : ℕ) → length_ok t n ≡ true → t.least ≤ n
unfolding length_ok
length_least t n e =
    elim (which t.exact) [ inl b ↦ omega (arith, eqb-true n t.least (rw b at e)) | inr b ↦ leb-true t.least n (rw b at e) ]
