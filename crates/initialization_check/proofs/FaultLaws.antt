-- What is wrong with an initialization header, kind by kind.
use Rattle.rows.{proofs.Kit.{◌≡◌, refl, ap, Bool, true, false, not, Option, none, some, ℕ, eqb}, specs.Rows.{Rows}}
use Rattle.igvm_defs.{specs.declared.Arch.Arch, specs.declared.Fault.Fault, specs.Refusals.{fault, no_fault, refuse, is_fault, or_fault}}
use Rattle.masks.{specs.Masks.{individual_masks, first_mask}, proofs.MaskLaws.first_mask_same}
use Rattle.platform_header.specs.declared.IgvmPlatformHeader.{IgvmPlatformHeader}
use Rattle.initialization_header.{specs.declared.IgvmInitializationHeader.IgvmInitializationHeader, specs.Fields.kind_number}
use Rattle.rules.{specs.Platforms.last_is_cca, specs.declared.Region.Region, specs.Regions.{region_of, region_passes}, specs.Initializations.{validate_initialization, wrong_policy_arch, bit_without_cca, without_cca, refuse_bit, initialization_fault}}
use Rattle.platform_check.{specs.declared.Platforms.Platforms, specs.Record.{HoldsPlatforms, last_type_is_cca}, proofs.RecordLaws.holds_cca}
use Rattle.initialization_check.specs.Record.{policy_fault, clash_fault, Clashes}

-- 26 to 29 of a region, where there is one
abbrev pub later_fault : Option Region → Bool → Bool → Fault
later_fault none shares overlaps = no_fault
later_fault (some new) shares overlaps = clash_fault new shares overlaps

module _ (arch : Arch) (platforms : Rows IgvmPlatformHeader) where
  -- a header of another kind than 17
  pub no_policy : (h : IgvmInitializationHeader) → eqb (kind_number h) 17 ≡ false → policy_fault arch platforms h ≡ no_fault
  unfolding policy_fault
  no_policy h e = rw e

  -- 24 and 25 stand before the later tests
  policy_then : (own : Fault) (wrong : Bool) (bit : Option ℕ) (later : Fault)
      → or_fault own (refuse wrong (fault 24 17) (refuse_bit bit later)) ≡ or_fault own (or_fault (refuse wrong (fault 24 17) (refuse_bit bit no_fault)) later)
  unfolding is_fault
  policy_then own wrong bit later = ap (or_fault own) (go wrong bit)
    where
      go : (w : Bool) (o : Option ℕ) → refuse w (fault 24 17) (refuse_bit o later) ≡ or_fault (refuse w (fault 24 17) (refuse_bit o no_fault)) later
      go true o = refl
      go false none = refl
      go false (some bit) = refl

  -- the header's own fault, then 24 and 25, then, where it has a region, 26 to 29
  pub row_fault_lem : (earlier : Rows IgvmInitializationHeader) (h : IgvmInitializationHeader) (o : Option Region) (shares overlaps : Bool) → region_of h ≡ o → Clashes o shares overlaps earlier
      → initialization_fault arch platforms earlier h ≡ or_fault (validate_initialization h) (or_fault (policy_fault arch platforms h) (later_fault o shares overlaps))
  unfolding initialization_fault region_passes policy_fault clash_fault
  row_fault_lem earlier h (some new) shares overlaps e clash =
      let (share, meet) = clash new refl in
      rw (e, share, meet) (policy_then (validate_initialization h) (wrong_policy_arch arch h) (without_cca platforms h) _)
  row_fault_lem earlier h none shares overlaps e clash = rw e (policy_then (validate_initialization h) (wrong_policy_arch arch h) (without_cca platforms h) _)

-- for 25: a record of the platform rows finds the same bit
pub holds_bit : (r : Platforms) (xs : Rows IgvmPlatformHeader) (mask : ℕ) → HoldsPlatforms r xs
    → first_mask (λ bit. not (last_type_is_cca r bit)) (individual_masks mask) ≡ bit_without_cca xs mask
unfolding bit_without_cca
holds_bit r xs mask held = first_mask_same (λ bit. not (last_type_is_cca r bit)) (λ bit. not (last_is_cca xs bit)) (λ bit. ap not (holds_cca r xs bit held)) (individual_masks mask)
