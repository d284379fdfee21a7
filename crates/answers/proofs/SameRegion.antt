-- One region in two accepted sheets, by its number in each: what a check of it answers is the same.
use Rattle.rows.proofs.Kit.{◌≡◌, Bool, false, List, ℕ, ◌<◌, lt-ltb}
use Rattle.igvm_defs.{specs.Refusals.is_refusal, proofs.RefusalLaws.or_else_later}
use Rattle.sheet.specs.Head.{Limits}
use Rattle.rules.{specs.declared.IgvmRelocatableRegion.IgvmRelocatableRegion, specs.Relocations.region_at}
use Rattle.answers.specs.{Verdict.verdict_refusal, Relocations.{sheet_initializations, region_fault, check_refusal, check_of, answer_of}, BaseRanges.{range_refusal, base_range_of}}
use Rattle.answers.proofs.AnswerLaws.{regions_of}

module _ (l : Limits) (a b : List ℕ) (va : is_refusal (verdict_refusal l a) ≡ false) (vb : is_refusal (verdict_refusal l b) ≡ false) (given n m : ℕ)
    (ln : n < regions_of a given) (lm : m < regions_of b given)
    (e : region_at (sheet_initializations a) given n ≡ region_at (sheet_initializations b) given m) where
  refusal_same : check_refusal l a given n ≡ check_refusal l b given m
  unfolding check_refusal region_fault
  refusal_same =
      rw (or_else_later (verdict_refusal l a) _ va, or_else_later (verdict_refusal l b) _ vb)
      (rw (lt-ltb n (regions_of a given) ln, lt-ltb m (regions_of b given) lm))

  pub check_same : (p : IgvmRelocatableRegion → Bool) → check_of p l a given n ≡ check_of p l b given m
  unfolding check_of
  check_same p = rw (refusal_same, e)

  pub answer_same : (f : IgvmRelocatableRegion → ℕ) → answer_of f l a given n ≡ answer_of f l b given m
  unfolding answer_of
  answer_same f = rw (refusal_same, e)

  pub range_same : (lowest highest : ℕ) → base_range_of l a given n lowest highest ≡ base_range_of l b given m lowest highest
  unfolding base_range_of range_refusal
  range_same lowest highest = rw (refusal_same, e)
