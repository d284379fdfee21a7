-- A base known only as a range, of a sheet: one base answers as the base check, a range within a range stays always or never, and the number is 0 exactly in a refusal.
use Rattle.rows.{proofs.Kit.{◌≡◌, refl, sym, ap, ◌∙◌, true, false, cond, eqb, ltb, ltb-false, le-ltb, List, Option, none, some, ℕ, suc, ◌≤◌, arith, inl, inr}, proofs.Bools.which}
use Rattle.igvm_defs.{specs.Refusals.{no_fault, is_fault, is_refusal}, proofs.RefusalLaws.{row_refusal_lem, or_else_first, or_else_later, no_fault_row}}
use Rattle.sheet.specs.Head.{Limits}
use Rattle.addresses.{specs.declared.BaseCheck.BaseCheck, specs.declared.BaseCheck.TheVariants.{Valid, Unaligned, BelowMinimum, AboveMaximum}, specs.BaseChecks.{check_number, is_valid}}
use Rattle.base_ranges.{specs.declared.BaseRange.TheVariants.{Always, Never}, specs.BaseRanges.{has_multiple, base_range, range_number}}
use Rattle.base_ranges.proofs.RangeLaws as range
use Rattle.rules.{specs.declared.IgvmRelocatableRegion.IgvmRelocatableRegion, specs.Relocations.{region_at, relocation_base_check}, proofs.FaultLaws.{refuse_none, else_none}}
use Rattle.answers.specs.{declared.Answered.Answered, Relocations.{sheet_initializations, check_refusal, answer_for, answer_of, base_number, base_check_of}, BaseRanges.{range_fault, range_refusal, relocation_base_range, base_range_number, base_range_of}}
use Rattle.answers.proofs.AnswerLaws.{answered, region_there, check_says_lem}

-- ---- the refusal

module _ (l : Limits) (s : List ℕ) (given region : ℕ) where
  -- a lowest base that is not above the highest is refused as a check is
  in_order : (lowest highest : ℕ) → lowest ≤ highest → range_refusal l s given region lowest highest ≡ check_refusal l s given region
  unfolding range_refusal range_fault is_fault
  in_order lowest highest h =
      elim (which (is_refusal (check_refusal l s given region))) [
        | inl e ↦ or_else_first _ _ e
        | inr e ↦ or_else_later _ _ e ∙ no_fault_row 0 _ (rw (le-ltb highest lowest h)) ∙ sym (check_says_lem l s given region e).3
      ]

  -- a range that is not refused: the check of the region is not, and the lowest base is not above the highest
  pub range_says : (lowest highest : ℕ) → is_refusal (range_refusal l s given region lowest highest) ≡ false
      → (is_refusal (check_refusal l s given region) ≡ false) × (lowest ≤ highest)
  unfolding range_refusal range_fault
  range_says lowest highest f =
      let (c, own) = (else_none (check_refusal l s given region) _).0 f in
      (c, ltb-false highest lowest ((refuse_none (ltb highest lowest) 49 0 no_fault).0 (rw row_refusal_lem at own)).0)

-- ---- of one region

one_of_region : (base : ℕ) (r : IgvmRelocatableRegion) → base_range_number base base r ≡ cond (eqb (base_number base r) 1) 1 2
one_of_region base r =
    ap range_number (range.one_base r.relocation_alignment r.size r.minimum_relocation_gpa r.maximum_relocation_gpa base) ∙ go (relocation_base_check r base)
  where
    go : (k : BaseCheck) → range_number (cond (is_valid k) Always Never) ≡ cond (eqb (check_number k) 1) 1 2
    go Valid = refl
    go Unaligned = refl
    go BelowMinimum = refl
    go AboveMaximum = refl

-- ---- of a sheet

-- what is said of a range of one base, where this is said of the base: always (1) where it is valid (1), never (2) where it is turned down, and a refusal where it is refused
abbrev pub of_one : Answered → Answered
of_one a = answered a.refusal (cond (is_refusal a.refusal) 0 (cond (eqb a.answer 1) 1 2))

module _ (l : Limits) (s : List ℕ) (given region : ℕ) where
  abbrev region_here : Option IgvmRelocatableRegion
  region_here = region_at (sheet_initializations s) given region

  -- A RANGE OF ONE BASE ANSWERS AS THE BASE CHECK, of every byte string
  pub one_base : (base : ℕ) → base_range_of l s given region base base ≡ of_one (base_check_of l s given region base)
  unfolding base_range_of answer_of
  one_base base =
      rw (in_order l s given region base base (omega arith))
      (elim (which (is_refusal (check_refusal l s given region))) [
        | inl e ↦ rw e
        | inr e ↦ rw e (go region_here refl e)
      ])
    where
      go : (o : Option IgvmRelocatableRegion) → region_here ≡ o → is_refusal (check_refusal l s given region) ≡ false
          → answered (check_refusal l s given region) (answer_for (base_range_number base base) o)
          ≡ answered (check_refusal l s given region) (cond (eqb (answer_for (base_number base) o) 1) 1 2)
      go none q e = absurd (region_there s given region (check_says_lem l s given region e).2 q)
      go (some r) q e = rw (one_of_region base r)

  -- the number is 0 exactly in a refusal
  pub zero_refused : (lowest highest : ℕ)
      → eqb (base_range_of l s given region lowest highest).answer 0 ≡ is_refusal (base_range_of l s given region lowest highest).refusal
  unfolding base_range_of
  zero_refused lowest highest =
      elim (which (is_refusal (range_refusal l s given region lowest highest))) [
        | inl e ↦ rw e
        | inr e ↦ rw e (go region_here refl (range_says l s given region lowest highest e).0)
      ]
    where
      go : (o : Option IgvmRelocatableRegion) → region_here ≡ o → is_refusal (check_refusal l s given region) ≡ false
          → eqb (answer_for (base_range_number lowest highest) o) 0 ≡ false
      go none q e = absurd (region_there s given region (check_says_lem l s given region e).2 q)
      go (some r) q e = range.no_number_zero (relocation_base_range r lowest highest)

  -- what an answer other than 0 says
  pub record Given (lowest highest n : ℕ) : Type 0 where
    pub passed : is_refusal (check_refusal l s given region) ≡ false
    pub of : IgvmRelocatableRegion
    pub there : region_here ≡ some of
    pub said : base_range_number lowest highest of ≡ n

  given_says : (lowest highest n : ℕ) → (base_range_of l s given region lowest highest).answer ≡ suc n → Given lowest highest (suc n)
  unfolding base_range_of
  given_says lowest highest n h =
      elim (which (is_refusal (range_refusal l s given region lowest highest))) [
        | inl e ↦ absurd (zero_not (rw e at h))
        | inr e ↦ go region_here refl (range_says l s given region lowest highest e).0 (rw e at h)
      ]
    where
      zero_not : 0 ≡ suc n → ⊥
      zero_not e = omega arith

      go : (o : Option IgvmRelocatableRegion) → region_here ≡ o → is_refusal (check_refusal l s given region) ≡ false
          → answer_for (base_range_number lowest highest) o ≡ suc n → Given lowest highest (suc n)
      go none q e a = absurd (zero_not a)
      go (some r) q e a = record { passed = e; of = r; there = q; said = a }

  says_given : (lowest highest n : ℕ) → lowest ≤ highest → Given lowest highest n → (base_range_of l s given region lowest highest).answer ≡ n
  unfolding base_range_of
  says_given lowest highest n h g = rw (in_order l s given region lowest highest h, g.passed, g.there) g.said

  module _ (lowest highest from to : ℕ) (low : lowest ≤ from) (most : from ≤ to) (high : to ≤ highest) where
    -- A RANGE WITHIN A RANGE THAT IS NEVER STAYS SO
    pub within_never : (base_range_of l s given region lowest highest).answer ≡ 2 → (base_range_of l s given region from to).answer ≡ 2
    unfolding base_range
    within_never h =
        let g = given_says lowest highest 1 h in
        let n = range.one_number (relocation_base_range g.of lowest highest) Never g.said in
        says_given from to 2 most
        (record { passed = g.passed; of = g.of; there = g.there; said = ap range_number (range.within_never _ lowest highest from to _ low high n) })

    -- and so does one that is always, where it has a multiple of the region's alignment
    pub within_always : ((r : IgvmRelocatableRegion) → region_here ≡ some r → has_multiple r.relocation_alignment from to ≡ true)
        → (base_range_of l s given region lowest highest).answer ≡ 1 → (base_range_of l s given region from to).answer ≡ 1
    unfolding base_range
    within_always m h =
        let g = given_says lowest highest 0 h in
        let n = range.one_number (relocation_base_range g.of lowest highest) Always g.said in
        says_given from to 1 most
        (record { passed = g.passed; of = g.of; there = g.there; said = ap range_number (range.within_always _ lowest highest from to _ low high n (m g.of g.there)) })
