-- The regions of a mask among those kept of an accepted file: as many as its initialization rows have.
use Rattle.rows.{proofs.Kit.{◌≡◌, refl, ◌∙◌, Bool, false, not, ◌&&◌, and-true, and-false, List, ℕ, get_or}, specs.Below.count_below, specs.Rows.Rows, proofs.BelowLaws.count_same_tests}
use Rattle.masks.specs.Masks.{matches}
use Rattle.initialization_header.{specs.declared.IgvmInitializationHeader.IgvmInitializationHeader, specs.declared.IgvmInitializationHeader.TheVariants.{GuestPolicy, CcaPolicy, RelocatableRegion, PageTableRelocationRegion}}
use Rattle.rules.{specs.declared.Region.Region, specs.Regions.region_passes, specs.Relocations.{is_relocatable, region_count}}
use Rattle.reloc_regions.specs.declared.RelocRegions.{RelocRegions}
use Rattle.initialization_check.specs.Record.{HoldsRows}

-- a region of the mask is one that is no page table, and whose mask holds every bit
abbrev of_mask : ℕ → Region → Bool
of_mask given r = matches given r.mask && not r.page_table

header_of_mask : (given : ℕ) (h : IgvmInitializationHeader) → region_passes (of_mask given) h ≡ is_relocatable given h
unfolding region_passes
header_of_mask given (GuestPolicy a b) = refl
header_of_mask given (CcaPolicy a b c) = refl
header_of_mask given (RelocatableRegion a b c d e f g h i j k) = and-true (matches given a)
header_of_mask given (PageTableRelocationRegion a b c d e f) = and-false (matches given a)

pub count_kept : {N first : ℕ} {rows : List ℕ} {kept : RelocRegions N} {xs : Rows IgvmInitializationHeader} (given : ℕ)
    → HoldsRows first rows kept xs
    → count_below kept.count (λ e. matches given (get_or kept.mask e 0) && not (get_or kept.page_table e false)) ≡ region_count xs given
unfolding region_count
count_kept {xs = xs} given h =
    h.counts (of_mask given)
    ∙ count_same_tests xs.count (λ i. region_passes (of_mask given) (xs.row i)) (λ i. is_relocatable given (xs.row i)) (λ i l. header_of_mask given (xs.row i))
