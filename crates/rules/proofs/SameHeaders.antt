-- Files with the same rows, whatever stands past their counts: they are refused alike, with number, row and detail, and they have the same regions.
use Rattle.rows.{proofs.Kit.{◌≡◌, refl, ap, ◌∙◌, Bool, not, Option, none, some, ℕ, ◌+◌, arith}, specs.Below.first_below, specs.Rows.Rows, specs.Same.SameRows, proofs.BelowLaws.first_same_tests, proofs.SameLaws.{rows_trans, any_rows, before_rows, count_rows, nth_rows}}
use Rattle.igvm_defs.proofs.RefusalLaws.{faults_same}
use Rattle.masks.{specs.Masks.individual_masks, proofs.MaskLaws.first_mask_same}
use Rattle.initialization_header.specs.declared.IgvmInitializationHeader.{IgvmInitializationHeader}
use Rattle.directive_header.specs.declared.IgvmDirectiveHeader.{IgvmDirectiveHeader}
use Rattle.rules.specs.{declared.Region.Region, Options.then, Headers.Headers, Regions.{region_of, region_passes}, Directives.is_context, Relocations.{is_relocatable, is_page_table, relocatable_of, page_table_of, region_count, region_at, page_table_at}, Verdict.{platform_faults, initialization_faults, directive_faults, platforms_refusal, initializations_refusal, directives_refusal, headers_refusal}, Strict.{bit_without_context, bit_fault, strict_fault, contexts_refusal}, Owner.{owns_address, number_of_row, owner_of}}
use Rattle.rules.proofs.SameRules.{platform_same, initialization_same, directive_same, no_platform_same, no_context_same}

pub record SameHeaders (f g : Headers) : Type 0 where
  pub arch : f.arch ≡ g.arch
  pub platforms : SameRows f.platforms g.platforms
  pub initializations : SameRows f.initializations g.initializations
  pub directives : SameRows f.directives g.directives

abbrev pub headers_trans : {f g k : Headers} → SameHeaders f g → SameHeaders g k → SameHeaders f k
headers_trans S T =
    record {
      arch = S.arch ∙ T.arch;
      platforms = rows_trans S.platforms T.platforms;
      initializations = rows_trans S.initializations T.initializations;
      directives = rows_trans S.directives T.directives;
    }

-- ---- the strict rule

bit_same : {ds es : Rows IgvmDirectiveHeader} → SameRows ds es → (r : Region) → bit_without_context ds r ≡ bit_without_context es r
unfolding bit_without_context
bit_same S r = first_mask_same _ _ (λ bit. ap not (any_rows S (is_context r.vtl bit))) (individual_masks r.mask)

strict_same : {ds es : Rows IgvmDirectiveHeader} → SameRows ds es → (h : IgvmInitializationHeader) → strict_fault ds h ≡ strict_fault es h
unfolding strict_fault
strict_same {ds} {es} S h = ap bit_fault (go (region_of h))
  where
    go : (o : Option Region) → then o (bit_without_context ds) ≡ then o (bit_without_context es)
    go none = refl
    go (some r) = bit_same S r

-- ---- the file

module _ {f g : Headers} (S : SameHeaders f g) where
  -- 8 to 34
  pub same_refusal : headers_refusal f ≡ headers_refusal g
  unfolding headers_refusal platforms_refusal initializations_refusal directives_refusal
  same_refusal =
      rw (
        faults_same 0 f.platforms.count (platform_faults f) (platform_faults g) (λ i l.
            rw (S.arch, S.platforms.row i l) (platform_same g.arch (g.platforms.row i) (before_rows S.platforms i (omega arith)))),
        faults_same f.platforms.count f.initializations.count (initialization_faults f) (initialization_faults g) (λ i l.
            rw (S.arch, S.initializations.row i l)
            (initialization_same g.arch (g.initializations.row i) S.platforms (before_rows S.initializations i (omega arith)))),
        faults_same (f.platforms.count + f.initializations.count) f.directives.count (directive_faults f) (directive_faults g) (λ i l.
            rw (S.arch, S.directives.row i l)
            (directive_same g.arch (g.directives.row i) S.initializations (before_rows S.directives i (omega arith)))),
        no_platform_same f g S.platforms,
        no_context_same f g S.initializations S.directives,
        S.platforms.count,
        S.initializations.count,
        S.directives.count,
      )

  -- 38
  pub same_contexts : contexts_refusal f ≡ contexts_refusal g
  unfolding contexts_refusal
  same_contexts =
      faults_same f.platforms.count f.initializations.count (λ i. strict_fault f.directives (f.initializations.row i))
      (λ i. strict_fault g.directives (g.initializations.row i)) (λ i l. rw (S.initializations.row i l) (strict_same S.directives (g.initializations.row i)))
      ∙ rw (S.platforms.count, S.initializations.count)

  -- the row that owns an address
  number_same : (o : Option ℕ) → number_of_row f o ≡ number_of_row g o
  number_same none = refl
  number_same (some i) = rw S.platforms.count

  pub same_owner : (given gpa : ℕ) → owner_of f given gpa ≡ owner_of g given gpa
  unfolding owner_of
  same_owner given gpa =
      let owns : IgvmInitializationHeader → Bool = region_passes (owns_address given gpa) in
      let e : first_below f.initializations.count (λ i. owns (f.initializations.row i)) ≡ first_below g.initializations.count (λ i. owns (g.initializations.row i)) =
      first_same_tests f.initializations.count _ _ (λ i l. ap owns (S.initializations.row i l)) ∙ rw S.initializations.count in
      number_same (first_below f.initializations.count (λ i. owns (f.initializations.row i))) ∙ ap (number_of_row g) e

-- ---- the regions of a mask

module _ {xs ys : Rows IgvmInitializationHeader} (S : SameRows xs ys) (given : ℕ) where
  pub region_count_rows : region_count xs given ≡ region_count ys given
  unfolding region_count
  region_count_rows = count_rows S (is_relocatable given)

  pub region_at_rows : (k : ℕ) → region_at xs given k ≡ region_at ys given k
  unfolding region_at
  region_at_rows k = ap (λ (o : Option IgvmInitializationHeader). then o relocatable_of) (nth_rows S (is_relocatable given) k)

  pub page_table_rows : page_table_at xs given ≡ page_table_at ys given
  unfolding page_table_at
  page_table_rows = ap (λ (o : Option IgvmInitializationHeader). then o page_table_of) (nth_rows S (is_page_table given) 0)
