-- The rules look at the earlier rows alone, whatever stands past their count: after lists with the same rows they say the same.
use Rattle.rows.{proofs.Kit.{◌≡◌, refl, ap, Bool, cond, not, ◌&&◌, Option, none, some, ℕ, eqb}, specs.Rows.{Rows, any}, specs.Same.SameRows, proofs.BelowLaws.any_same_tests, proofs.SameLaws.{any_rows, last_rows}}
use Rattle.igvm_defs.specs.declared.Arch.{Arch}
use Rattle.masks.{specs.Masks.individual_masks, proofs.MaskLaws.first_mask_same}
use Rattle.platform_header.specs.declared.IgvmPlatformHeader.{IgvmPlatformHeader}
use Rattle.initialization_header.specs.{declared.IgvmInitializationHeader.IgvmInitializationHeader, Fields.{initialization_fields, kind_number}}
use Rattle.directive_header.specs.{declared.IgvmDirectiveHeader.IgvmDirectiveHeader, Fields.{directive_fields, area_of}}
use Rattle.directive_header.specs.Fields.{kind_number as directive_number}
use Rattle.rules.specs.{declared.Region.Region, Options.passes, Regions.{region_of, region_passes, tables_share, overlap, table_holds}, Platforms.{same_type, platform_fault, is_cca, last_is_cca}, Initializations.{bit_without_cca, without_cca, initialization_fault}, Directives.{allocates, inserts, is_allocated, bad_area, inside_table, directive_fault, is_context, no_context}, Headers.Headers, Verdict.{no_platform, no_matching_vp_context}}

passes_same : {A : Type 0} (p q : A → Bool) (o : Option A) → ((a : A) → p a ≡ q a) → passes p o ≡ passes q o
passes_same p q none e = refl
passes_same p q (some a) e = e a

region_same : (p q : Region → Bool) (h : IgvmInitializationHeader) → ((r : Region) → p r ≡ q r) → region_passes p h ≡ region_passes q h
unfolding region_passes
region_same p q h e = passes_same p q (region_of h) e

-- ---- platforms

pub platform_same : (arch : Arch) {ps qs : Rows IgvmPlatformHeader} (h : IgvmPlatformHeader) → SameRows ps qs → platform_fault arch ps h ≡ platform_fault arch qs h
unfolding platform_fault
platform_same arch h S = rw (any_rows S (same_type h))

cca_same : {ps qs : Rows IgvmPlatformHeader} → SameRows ps qs → (bit : ℕ) → last_is_cca ps bit ≡ last_is_cca qs bit
unfolding last_is_cca
cca_same S bit = ap (passes is_cca) (last_rows S (λ p. eqb p.compatibility_mask bit))

-- ---- initializations

without_same : {ps qs : Rows IgvmPlatformHeader} → SameRows ps qs → (h : IgvmInitializationHeader) → without_cca ps h ≡ without_cca qs h
unfolding bit_without_cca
without_same {ps} {qs} S h =
    ap (λ (o : Option ℕ). cond (eqb (kind_number h) 17) o none)
    (first_mask_same (λ bit. not (last_is_cca ps bit)) (λ bit. not (last_is_cca qs bit)) (λ bit. ap not (cca_same S bit)) (individual_masks (initialization_fields h).mask))

clash_same : (clash : Region → Region → Bool) {xs ys : Rows IgvmInitializationHeader} → SameRows xs ys → (h : IgvmInitializationHeader)
    → region_passes (λ r. any (region_passes (clash r)) xs) h ≡ region_passes (λ r. any (region_passes (clash r)) ys) h
clash_same clash S h = region_same _ _ h (λ r. any_rows S (region_passes (clash r)))

pub initialization_same : (arch : Arch) {ps qs : Rows IgvmPlatformHeader} {xs ys : Rows IgvmInitializationHeader} (h : IgvmInitializationHeader)
    → SameRows ps qs → SameRows xs ys → initialization_fault arch ps xs h ≡ initialization_fault arch qs ys h
unfolding initialization_fault
initialization_same arch h S T = rw (without_same S h, clash_same tables_share T h, clash_same overlap T h)

-- ---- directives

allocated_same : {ds es : Rows IgvmDirectiveHeader} → SameRows ds es → (area : ℕ) → is_allocated ds area ≡ is_allocated es area
unfolding is_allocated
allocated_same S area = rw (any_rows S (allocates area), any_rows S (inserts area))

pub area_same : {ds es : Rows IgvmDirectiveHeader} → SameRows ds es → (h : IgvmDirectiveHeader) → bad_area ds h ≡ bad_area es h
unfolding bad_area
area_same {ds} {es} S h =
    passes_same (λ area. cond (eqb (directive_number h) 33) (any (allocates area) ds) (not (is_allocated ds area)))
    (λ area. cond (eqb (directive_number h) 33) (any (allocates area) es) (not (is_allocated es area))) (area_of h)
    (λ area. rw (any_rows S (allocates area), allocated_same S area))

pub table_same : {xs ys : Rows IgvmInitializationHeader} → SameRows xs ys → (h : IgvmDirectiveHeader) → inside_table xs h ≡ inside_table ys h
table_same S h = ap (λ (b : Bool). eqb (directive_number h) 50 && b) (any_rows S (region_passes (table_holds (directive_fields h).mask (directive_fields h).gpa)))

pub directive_same : (arch : Arch) {xs ys : Rows IgvmInitializationHeader} {ds es : Rows IgvmDirectiveHeader} (h : IgvmDirectiveHeader)
    → SameRows xs ys → SameRows ds es → directive_fault arch xs ds h ≡ directive_fault arch ys es h
unfolding directive_fault
directive_same arch h S T = rw (area_same T h, table_same S h)

-- ---- 15 and 34

pub no_platform_same : (f g : Headers) → SameRows f.platforms g.platforms → no_platform f ≡ no_platform g
unfolding no_platform
no_platform_same f g S = rw S.count

context_same : {ds es : Rows IgvmDirectiveHeader} → SameRows ds es → (r : Region) → no_context ds r ≡ no_context es r
unfolding no_context
context_same S r = rw (any_rows S (is_context r.vtl r.mask))

pub no_context_same : (f g : Headers) → SameRows f.initializations g.initializations → SameRows f.directives g.directives → no_matching_vp_context f ≡ no_matching_vp_context g
unfolding no_matching_vp_context
no_context_same f g S T =
    rw (
      any_same_tests f.initializations.count (λ i. region_passes (no_context f.directives) (f.initializations.row i))
          (λ i. region_passes (no_context g.directives) (f.initializations.row i)) (λ i l. region_same _ _ (f.initializations.row i) (context_same T)),
      any_rows S (region_passes (no_context g.directives)),
    )
