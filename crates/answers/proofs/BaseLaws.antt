-- The base check of a sheet: valid is what it was, and the number is 0 exactly in a refusal.
use Rattle.rows.{proofs.Kit.{◌≡◌, refl, ◌∙◌, Bool, true, false, cond, eqb, List, Option, none, some, ℕ, inl, inr}, proofs.Bools.which}
use Rattle.igvm_defs.specs.Refusals.{is_refusal}
use Rattle.sheet.specs.Head.{Limits}
use Rattle.addresses.proofs.BaseCheckLaws.{valid_same, valid_number, no_number_zero}
use Rattle.rules.{specs.declared.IgvmRelocatableRegion.IgvmRelocatableRegion, specs.Relocations.{region_at, relocation_base_valid, relocation_base_check}}
use Rattle.answers.specs.Relocations.{sheet_initializations, check_refusal, test_region, check_of, answer_for, answer_of, base_number, base_check_of}
use Rattle.answers.proofs.AnswerLaws.{region_there, check_says_lem}

-- ---- of one region

region_valid : (base : ℕ) (r : IgvmRelocatableRegion) → eqb (base_number base r) 1 ≡ relocation_base_valid r base
region_valid base r = valid_number (relocation_base_check r base) ∙ valid_same r.relocation_alignment r.size r.minimum_relocation_gpa r.maximum_relocation_gpa base

-- ---- of a sheet

module _ (l : Limits) (s : List ℕ) (given region base : ℕ) where
  -- VALID IS WHAT IT WAS, of every byte string: the refusals are the same, and the number is 1 exactly where the base was called valid
  pub valid_as_before :
      ((base_check_of l s given region base).refusal ≡ (check_of (λ r. relocation_base_valid r base) l s given region).refusal)
      × (eqb (base_check_of l s given region base).answer 1 ≡ (check_of (λ r. relocation_base_valid r base) l s given region).holds)
  unfolding check_of answer_of
  valid_as_before = (refl, go (is_refusal (check_refusal l s given region)) (region_at (sheet_initializations s) given region))
    where
      go : (t : Bool) (o : Option IgvmRelocatableRegion)
          → eqb (cond t 0 (answer_for (base_number base) o)) 1 ≡ cond t false (test_region (λ r. relocation_base_valid r base) o)
      go true o = refl
      go false none = refl
      go false (some r) = region_valid base r

  -- the number is 0 exactly in a refusal
  pub zero_refused : eqb (base_check_of l s given region base).answer 0 ≡ is_refusal (base_check_of l s given region base).refusal
  unfolding answer_of
  zero_refused =
      elim (which (is_refusal (check_refusal l s given region))) [
        | inl e ↦ rw e
        | inr e ↦ rw e (go (region_at (sheet_initializations s) given region) refl e)
      ]
    where
      go : (o : Option IgvmRelocatableRegion) → region_at (sheet_initializations s) given region ≡ o → is_refusal (check_refusal l s given region) ≡ false
          → eqb (answer_for (base_number base) o) 0 ≡ false
      go none q e = absurd (region_there s given region (check_says_lem l s given region e).2 q)
      go (some r) q e = no_number_zero (relocation_base_check r base)
