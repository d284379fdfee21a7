-- Two rows exchanged, as a pairing; and that neither order condition of `Reordered` can be left out.
use lib.Count.{ones}
use Rattle.rows.{proofs.Kit.{◌≡◌, refl, true, false, List, [], ◌∷◌, ◌↔◌, ℕ, zero, suc, ◌<◌, arith, length, get_or}, specs.Below.{any_below, first_below, last_below}, specs.Rows.Rows, specs.Paired.{Paired, Free}, proofs.Bools.not_both, proofs.PairedLaws.unmoved}
use Rattle.igvm_defs.{specs.declared.Arch.Arch, specs.declared.Arch.TheVariants.{X64, AArch64}, specs.Refusals.{is_fault, is_refusal, in_row, or_else, first_fault}, specs.Platforms.{platform_types, is_platform_type, platform_type_of}}
use Rattle.masks.specs.Masks.{shares, is_one_bit, has_bit, bits_below, first_mask}
use Rattle.addresses.specs.Addresses.{is_multiple}
use Rattle.platform_header.specs.declared.IgvmPlatformHeader.{IgvmPlatformHeader}
use Rattle.initialization_header.{specs.declared.IgvmInitializationHeader.IgvmInitializationHeader, specs.declared.IgvmInitializationHeader.TheVariants.{GuestPolicy, CcaPolicy}}
use Rattle.directive_header.{specs.declared.IgvmDirectiveHeader.IgvmDirectiveHeader, specs.declared.IgvmDirectiveHeader.TheVariants.{ParameterArea, VpCount, VbsMeasurement}}
use Rattle.rules.specs.{Regions.region_passes, Platforms.{validate_platform, own_platform_fault, same_type, platform_fault, last_is_cca}, Initializations.{bit_without_cca, initialization_fault}, Directives.{wrong_context_arch, allocates, inserts, is_allocated, bad_area, own_directive_fault, directive_fault}, Headers.Headers, Verdict.{no_platform, no_matching_vp_context, platforms_refusal, initializations_refusal, directives_refusal, headers_refusal}, Accepted.NotRefused, Reordered.{SameMask, SameArea}}
use Rattle.rules.proofs.Order.{same_accepted}

-- ---- two rows exchanged

-- the rows of a list; past its end stands the row d
abbrev rows_of : {H : Type 0} → H → List H → Rows H
rows_of d l = record { count = length l; row = λ i. get_or l i d }

exchange : ℕ → ℕ
exchange zero = 1
exchange (suc zero) = 0
exchange (suc (suc n)) = suc (suc n)

module _ {H : Type 0} (Tied : H → H → Type 0) (d x y : H) (free : Tied x y → ⊥) where
  exchanged : Paired Tied (rows_of d (x ∷ y ∷ [])) (rows_of d (y ∷ x ∷ []))
  unfolding exchange
  exchanged =
      record {
        to = exchange;
        from = exchange;
        to_below = below;
        from_below = below;
        from_to = twice;
        to_from = twice;
        same = same;
        keeps = keeps;
      }
    where
      below : (i : ℕ) → i < 2 → exchange i < 2
      below zero l = omega arith
      below (suc zero) l = omega arith
      below (suc (suc i)) l = l

      twice : (i : ℕ) → i < 2 → exchange (exchange i) ≡ i
      twice zero l = refl
      twice (suc zero) l = refl
      twice (suc (suc i)) l = refl

      same : (i : ℕ) → i < 2 → get_or (y ∷ x ∷ []) (exchange i) d ≡ get_or (x ∷ y ∷ []) i d
      same zero l = refl
      same (suc zero) l = refl
      same (suc (suc i)) l = absurd (omega arith)

      keeps : (i j : ℕ) → i < j → j < 2 → Tied (get_or (x ∷ y ∷ []) i d) (get_or (x ∷ y ∷ []) j d) → exchange i < exchange j
      keeps zero zero l m t = absurd (omega arith)
      keeps zero (suc zero) l m t = absurd (free t)
      keeps zero (suc (suc j)) l m t = absurd (omega arith)
      keeps (suc i) j l m t = absurd (omega arith)

abbrev no_initialization : IgvmInitializationHeader
no_initialization = GuestPolicy 0 0

abbrev no_directive : IgvmDirectiveHeader
no_directive = VbsMeasurement 0 0

-- two initialization rows, whatever they are and whatever the other lists hold
pub exchange_accepted : (arch : Arch) (ps : Rows IgvmPlatformHeader) (x y : IgvmInitializationHeader) (ds : Rows IgvmDirectiveHeader)
    → NotRefused (record { arch = arch; platforms = ps; initializations = rows_of no_initialization (x ∷ y ∷ []); directives = ds })
    ↔ NotRefused (record { arch = arch; platforms = ps; initializations = rows_of no_initialization (y ∷ x ∷ []); directives = ds })
exchange_accepted arch ps x y ds =
    same_accepted _ _
    (record {
      arch = refl;
      platforms = unmoved SameMask ps;
      initializations = exchanged Free no_initialization x y (λ t. t);
      directives = unmoved SameArea ds;
    })

-- ---- the order conditions

abbrev platform : ℕ → IgvmPlatformHeader
platform type =
    record { compatibility_mask = 1; highest_vtl = 0; platform_type = type; platform_version = 1; shared_gpa_boundary = 0 }

abbrev file : Arch → List IgvmPlatformHeader → List IgvmInitializationHeader → List IgvmDirectiveHeader → Headers
file arch ps is ds =
    record {
      arch = arch;
      platforms = rows_of (platform 0) ps;
      initializations = rows_of no_initialization is;
      directives = rows_of no_directive ds;
    }

abbrev area : IgvmDirectiveHeader
area = ParameterArea 4096 7 0

abbrev vp_count : IgvmDirectiveHeader
vp_count = VpCount (record { parameter_area_index = 7; byte_offset = 0 })

-- platforms VSM_ISOLATION and CCA of one mask, with a CcaPolicy: the last type counts. An area is named after it is allocated.
record Needed : Type 0 where
  cca_last_lem : is_refusal (headers_refusal (file AArch64 (platform 1 ∷ platform 6 ∷ []) (CcaPolicy 1 0 0 ∷ []) [])) ≡ false
  cca_first_lem : is_refusal (headers_refusal (file AArch64 (platform 6 ∷ platform 1 ∷ []) (CcaPolicy 1 0 0 ∷ []) [])) ≡ true
  allocated : is_refusal (headers_refusal (file X64 (platform 0 ∷ []) [] (area ∷ vp_count ∷ []))) ≡ false
  too_early : is_refusal (headers_refusal (file X64 (platform 0 ∷ []) [] (vp_count ∷ area ∷ []))) ≡ true

needed : Needed
unfolding any_below first_below last_below is_fault is_refusal in_row or_else first_fault platform_types is_platform_type platform_type_of shares is_one_bit has_bit bits_below first_mask is_multiple region_passes validate_platform same_type own_platform_fault platform_fault last_is_cca bit_without_cca initialization_fault wrong_context_arch allocates inserts is_allocated bad_area own_directive_fault directive_fault no_platform no_matching_vp_context platforms_refusal initializations_refusal directives_refusal headers_refusal ones
needed = record { cca_last_lem = refl; cca_first_lem = refl; allocated = refl; too_early = refl }

-- with platform rows free to move, the statement is false
pub not_platforms_free : ((f g : Headers) → f.arch ≡ g.arch → Paired Free f.platforms g.platforms
    → Paired Free f.initializations g.initializations → Paired SameArea f.directives g.directives → NotRefused f → NotRefused g) → ⊥
not_platforms_free law =
    not_both
    (law (file AArch64 (platform 1 ∷ platform 6 ∷ []) (CcaPolicy 1 0 0 ∷ []) []) (file AArch64 (platform 6 ∷ platform 1 ∷ []) (CcaPolicy 1 0 0 ∷ []) [])
    refl (exchanged Free (platform 0) (platform 1) (platform 6) (λ t. t)) (unmoved Free _) (unmoved SameArea _) needed.cca_last_lem)
    needed.cca_first_lem

-- nor with directive rows free to move
pub not_directives_free : ((f g : Headers) → f.arch ≡ g.arch → Paired SameMask f.platforms g.platforms
    → Paired Free f.initializations g.initializations → Paired Free f.directives g.directives → NotRefused f → NotRefused g) → ⊥
not_directives_free law =
    not_both
    (law (file X64 (platform 0 ∷ []) [] (area ∷ vp_count ∷ [])) (file X64 (platform 0 ∷ []) [] (vp_count ∷ area ∷ []))
    refl (unmoved SameMask _) (unmoved Free _) (exchanged Free no_directive area vp_count (λ t. t)) needed.allocated)
    needed.too_early
