-- Reports by computing: a skipped row leaves no trace. Each claim has the words of all rows, and whether 15 and 34 are told.
use lib.Count.{ones}
use Rattle.rows.{proofs.Kit.{◌≡◌, refl, Bool, true, false, List, [], ◌∷◌, ℕ, zero, suc, length, get_or}, specs.Below.{any_below, last_below}, specs.Rows.Rows}
use Rattle.igvm_defs.{specs.declared.Arch.Arch, specs.declared.Arch.TheVariants.{X64, AArch64}, specs.declared.Vtl.TheVariants.Vtl0, specs.Refusals.is_fault, specs.Platforms.{platform_types, is_platform_type, platform_type_of}}
use Rattle.masks.specs.Masks.{shares, is_one_bit, has_bit, bits_below, first_mask}
use Rattle.addresses.specs.Addresses.{is_multiple, contains, meets, ends_beyond}
use Rattle.platform_header.specs.declared.IgvmPlatformHeader.{IgvmPlatformHeader}
use Rattle.initialization_header.specs.{declared.IgvmInitializationHeader.IgvmInitializationHeader, declared.IgvmInitializationHeader.TheVariants.{GuestPolicy, CcaPolicy, RelocatableRegion, PageTableRelocationRegion}}
use Rattle.directive_header.specs.{declared.IgvmDirectiveHeader.IgvmDirectiveHeader, declared.IgvmDirectiveHeader.TheVariants.{ParameterArea, VpCount, X64VbsVpContext, ParameterInsert, VbsMeasurement}}
use Rattle.rules.specs.{Headers.Headers, Regions.{region_passes, tables_share, overlap, table_holds}, Platforms.{validate_platform, own_platform_fault, same_type, platform_fault, last_is_cca}, Initializations.{validate_region, validate_table, bit_without_cca, initialization_fault}, Directives.{wrong_context_arch, own_directive_fault, allocates, inserts, is_allocated, bad_area, directive_fault, no_context}, Verdict.{no_platform, no_matching_vp_context}, Kept.kept_below, Report.{rows_of, report_fault, report_word, report_no_platform, report_no_context}}
use Rattle.rules.proofs.DroppedLaws.{without_row}

-- ---- small files

abbrev list : {H : Type 0} → H → List H → Rows H
list past l = record { count = length l; row = λ i. get_or l i past }

-- mask, highest VTL, type, version
abbrev platform_of : ℕ → ℕ → ℕ → ℕ → IgvmPlatformHeader
platform_of mask vtl type version =
    record { compatibility_mask = mask; highest_vtl = vtl; platform_type = type; platform_version = version; shared_gpa_boundary = 0 }

-- a platform in order: its type and mask
abbrev platform : ℕ → ℕ → IgvmPlatformHeader
platform type mask = platform_of mask 0 type 1

abbrev file : Arch → List IgvmPlatformHeader → List IgvmInitializationHeader → List IgvmDirectiveHeader → Headers
file arch ps is ds =
    record { arch = arch; platforms = list (platform 0 0) ps; initializations = list (GuestPolicy 0 0) is; directives = list (VbsMeasurement 0 0) ds }

-- mask, gpa, size: VP index 0, VTL 0
abbrev region : ℕ → ℕ → ℕ → IgvmInitializationHeader
region mask gpa size = RelocatableRegion mask 4096 gpa size 0 1048576 false false false 0 Vtl0

-- mask, gpa, size: VP index 0, VTL 0
abbrev table : ℕ → ℕ → ℕ → IgvmInitializationHeader
table mask gpa size = PageTableRelocationRegion mask gpa size 0 0 Vtl0

-- the VBS context of VTL 0, for a mask
abbrev context : ℕ → IgvmDirectiveHeader
context mask = X64VbsVpContext Vtl0 0 mask

-- bytes, area
abbrev allocate : ℕ → ℕ → IgvmDirectiveHeader
allocate bytes area = ParameterArea bytes area 0

abbrev use_area : ℕ → IgvmDirectiveHeader
use_area area = VpCount (record { parameter_area_index = area; byte_offset = 0 })

-- under bit 1: gpa, area
abbrev insert : ℕ → ℕ → IgvmDirectiveHeader
insert gpa area = ParameterInsert (record { gpa = gpa; compatibility_mask = 1; parameter_area_index = area })

-- ---- what a report tells

record Told : Type 0 where
  words : List ℕ
  no_platform_lem : Bool
  no_context_lem : Bool

-- the words, 15, 34
abbrev told : List ℕ → Bool → Bool → Told
told ws p c = record { words = ws; no_platform_lem = p; no_context_lem = c }

-- n words from word k on
words_from : ℕ → ℕ → (ℕ → ℕ) → List ℕ
words_from zero k word = []
words_from (suc n) k word = word k ∷ words_from n (suc k) word

report : Headers → Told
unfolding words_from any_below last_below is_fault platform_types is_platform_type platform_type_of shares is_one_bit has_bit bits_below first_mask is_multiple contains meets ends_beyond region_passes tables_share overlap table_holds validate_platform own_platform_fault same_type platform_fault last_is_cca validate_region validate_table bit_without_cca initialization_fault wrong_context_arch own_directive_fault allocates inserts is_allocated bad_area directive_fault no_context no_platform no_matching_vp_context kept_below report_fault ones
report f = told (words_from (rows_of f) 0 (report_word f)) (report_no_platform f) (report_no_context f)

-- ---- platforms

-- 14: the type of a platform refused by 8 stays free, that of a kept platform does not
type_skipped : report (file X64 (platform 0 3 ∷ platform 0 1 ∷ platform 0 2 ∷ platform 2 4 ∷ []) [] []) ≡ told (8 ∷ 0 ∷ 14 ∷ 0 ∷ []) false false
unfolding report
type_skipped = refl

-- 25: a platform refused by 9 is not the last of its mask, so the CCA platform before it is
last_platform_skipped : report (file AArch64 (platform 6 1 ∷ platform_of 1 1 1 1 ∷ []) (CcaPolicy 1 0 0 ∷ []) []) ≡ told (0 ∷ 9 ∷ 0 ∷ []) false false
unfolding report
last_platform_skipped = refl

-- where it is kept, it is the last
last_platform_kept : report (file AArch64 (platform 6 1 ∷ platform 1 1 ∷ []) (CcaPolicy 1 0 0 ∷ []) []) ≡ told (0 ∷ 0 ∷ 25 ∷ []) false false
unfolding report
last_platform_kept = refl

-- 25: the only CCA platform is refused by 10
cca_platform_skipped : report (file AArch64 (platform 1 1 ∷ platform_of 1 0 6 2 ∷ []) (CcaPolicy 1 0 0 ∷ []) []) ≡ told (0 ∷ 10 ∷ 25 ∷ []) false false
unfolding report
cca_platform_skipped = refl

-- ---- 15

-- no rows
no_rows : report (file X64 [] [] []) ≡ told [] true false
unfolding report
no_rows = refl

-- every row is faulty
all_faulty : report (file X64 (platform 0 3 ∷ platform 7 1 ∷ []) (CcaPolicy 1 0 0 ∷ table 1 1 4096 ∷ []) (use_area 0 ∷ []))
    ≡ told (8 ∷ 12 ∷ 24 ∷ 21 ∷ 32 ∷ []) true false
unfolding report
all_faulty = refl

-- every platform is faulty, and the rows behind are judged all the same
no_platform_kept : report (file AArch64 (platform 0 1 ∷ []) (CcaPolicy 2 0 0 ∷ GuestPolicy 0 1 ∷ []) (allocate 4096 0 ∷ []))
    ≡ told (13 ∷ 25 ∷ 0 ∷ 0 ∷ []) true false
unfolding report
no_platform_kept = refl

-- no platform row: a CcaPolicy has 25
no_platform_row : report (file AArch64 [] (CcaPolicy 1 0 0 ∷ table 1 1 4096 ∷ GuestPolicy 0 1 ∷ []) []) ≡ told (25 ∷ 21 ∷ 0 ∷ []) true false
unfolding report
no_platform_row = refl

-- ---- initializations

-- 26: a second page table is refused, and the third, which shares a bit with it alone, is not; so on down the list
table_skipped : report (file X64 (platform 0 1 ∷ [])
    (table 1 4096 4096 ∷ table 3 8192 4096 ∷ table 2 12288 4096 ∷ table 6 16384 4096 ∷ table 4 20480 4096 ∷ []) (context 7 ∷ []))
    ≡ told (0 ∷ 0 ∷ 26 ∷ 0 ∷ 26 ∷ 0 ∷ 0 ∷ []) false false
unfolding report
table_skipped = refl

-- 26: a page table refused by 27 leaves its bit to the next
table_empty : report (file X64 (platform 0 1 ∷ []) (table 1 4096 0 ∷ table 1 8192 4096 ∷ []) (context 1 ∷ [])) ≡ told (0 ∷ 27 ∷ 0 ∷ 0 ∷ []) false false
unfolding report
table_empty = refl

-- by 28
table_beyond : report (file X64 (platform 0 1 ∷ []) (table 1 18446744073709547520 4096 ∷ table 1 8192 4096 ∷ []) (context 1 ∷ []))
    ≡ told (0 ∷ 28 ∷ 0 ∷ 0 ∷ []) false false
unfolding report
table_beyond = refl

-- by 29
table_overlaps : report (file X64 (platform 0 1 ∷ []) (region 1 4096 4096 ∷ table 1 4096 4096 ∷ table 1 8192 4096 ∷ []) (context 1 ∷ []))
    ≡ told (0 ∷ 0 ∷ 29 ∷ 0 ∷ 0 ∷ []) false false
unfolding report
table_overlaps = refl

-- 29: a region refused under bit 1 leaves no range under bit 2
region_skipped : report (file X64 (platform 0 1 ∷ []) (region 1 4096 4096 ∷ region 3 4096 8192 ∷ region 2 4096 8192 ∷ []) (context 3 ∷ []))
    ≡ told (0 ∷ 0 ∷ 29 ∷ 0 ∷ 0 ∷ []) false false
unfolding report
region_skipped = refl

-- where the region before it is not there, it is kept, and the next is refused
region_kept : report (file X64 (platform 0 1 ∷ []) (region 3 4096 8192 ∷ region 2 4096 8192 ∷ []) (context 3 ∷ [])) ≡ told (0 ∷ 0 ∷ 29 ∷ 0 ∷ []) false false
unfolding report
region_kept = refl

-- ---- directives

-- 32: an area that a row refused by 22 allocates is not there, and may be allocated
area_skipped : report (file X64 (platform 0 1 ∷ []) [] (allocate 100 5 ∷ use_area 5 ∷ allocate 4096 5 ∷ use_area 5 ∷ allocate 4096 5 ∷ []))
    ≡ told (0 ∷ 22 ∷ 32 ∷ 0 ∷ 0 ∷ 32 ∷ []) false false
unfolding report
area_skipped = refl

-- 33: an insert that is refused leaves its area allocated, to be used and inserted, once
insert_skipped : report (file X64 (platform 0 1 ∷ []) (table 1 4096 4096 ∷ [])
    (context 1 ∷ allocate 4096 0 ∷ insert 4096 0 ∷ use_area 0 ∷ insert 8192 0 ∷ insert 8192 0 ∷ use_area 0 ∷ []))
    ≡ told (0 ∷ 0 ∷ 0 ∷ 0 ∷ 33 ∷ 0 ∷ 0 ∷ 32 ∷ 32 ∷ []) false false
unfolding report
insert_skipped = refl

-- 33: a page table refused by 26 holds no insert
insert_in_skipped : report (file X64 (platform 0 1 ∷ []) (table 1 4096 4096 ∷ table 1 8192 4096 ∷ []) (context 1 ∷ allocate 4096 0 ∷ insert 8192 0 ∷ []))
    ≡ told (0 ∷ 0 ∷ 26 ∷ 0 ∷ 0 ∷ 0 ∷ []) false false
unfolding report
insert_in_skipped = refl

-- ---- 34

-- the region's only context is refused by 24
context_skipped : report (file AArch64 (platform 1 1 ∷ []) (table 1 4096 4096 ∷ []) (context 1 ∷ [])) ≡ told (0 ∷ 0 ∷ 24 ∷ []) false true
unfolding report
context_skipped = refl

-- the region without a context is itself refused
region_without_context : report (file X64 (platform 0 1 ∷ []) (table 1 1 4096 ∷ []) []) ≡ told (0 ∷ 21 ∷ []) false false
unfolding report
region_without_context = refl

-- VP index 1 is no fault of the row
vp_index : report (file X64 (platform 0 1 ∷ []) (PageTableRelocationRegion 1 4096 4096 0 1 Vtl0 ∷ []) (context 1 ∷ [])) ≡ told (0 ∷ 0 ∷ 0 ∷ []) false true
unfolding report
vp_index = refl

-- ---- a row dropped

-- a faulty row that is dropped changes no other word
faulty_row_dropped : report (without_row 2 (file X64 (platform 0 1 ∷ []) (table 1 4096 4096 ∷ table 3 8192 4096 ∷ table 2 12288 4096 ∷ []) (context 3 ∷ [])))
    ≡ told (0 ∷ 0 ∷ 0 ∷ 0 ∷ []) false false
unfolding report without_row
faulty_row_dropped = refl

-- a row whose word is 0 may not be dropped so: with it the area is there, without it the area is not
kept_row_there : report (file X64 (platform 0 1 ∷ []) [] (allocate 4096 0 ∷ use_area 0 ∷ [])) ≡ told (0 ∷ 0 ∷ 0 ∷ []) false false
unfolding report
kept_row_there = refl

kept_row_dropped : report (without_row 1 (file X64 (platform 0 1 ∷ []) [] (allocate 4096 0 ∷ use_area 0 ∷ []))) ≡ told (0 ∷ 32 ∷ []) false false
unfolding report without_row
kept_row_dropped = refl
