-- A reordering that is not the identity, on bytes: the first two rows of each list are exchanged, and page, initial and opaque bytes are changed.
use lib.Count.{ones, ones_in}
use Rattle.rows.{proofs.Kit.{◌≡◌, refl, false, false≢true, List, ℕ, ◌+◌, ◌*◌, ◌/◌, ◌<◌, arith, length}, specs.Below.{any_below, first_below, last_below, sum_below}}
use Rattle.le.specs.{Le.{le_at, byte_of}, Bytes.{concat_below, le_bytes}}
use Rattle.sheet_of.specs.{SheetOf.{head_bytes, entry_bytes, sheet_of}, Lists.lists_sheet}
use Rattle.igvm_defs.{specs.Refusals.{is_fault, is_refusal, in_row, or_else, first_fault}, specs.Kinds.{spans, kind_of, fields, length_ok}, specs.Platforms.{platform_types, is_platform_type, platform_type_of}, specs.Vtls.vtl_of, proofs.Runs.◌⨾◌}
use Rattle.masks.specs.Masks.{shares, matches, is_one_bit, has_bit, bits_below, first_mask}
use Rattle.addresses.specs.Addresses.{is_multiple, contains, meets, ends_beyond}
use Rattle.sheet.{specs.Head.{limits, head_of, layout_ok, within_limits, start_fault, revision_of, page_size_fault}, specs.Table.{row_kind, row_length, offset_of, body_of}, specs.Read.{list_at, codes_ok, row_fault, end_fault, rows_refusal, read_refusal, sheet_refusal}}
use Rattle.platform_header.specs.Platforms.{platform_of}
use Rattle.initialization_header.specs.Initializations.{initialization_of}
use Rattle.directive_header.{specs.Directives.directive_of, specs.Fields.area_named}
use Rattle.sheet_headers.specs.Headers.{sheet_headers}
use Rattle.rules.{specs.Regions.{region_passes, tables_share, overlap}, specs.Platforms.{validate_platform, same_type, own_platform_fault, platform_fault, last_is_cca}, specs.Initializations.{validate_region, validate_table, bit_without_cca, initialization_fault}, specs.Directives.{wrong_context_arch, allocates, inserts, is_allocated, bad_area, own_directive_fault, directive_fault, no_context}, specs.Verdict.{no_platform, no_matching_vp_context, platforms_refusal, initializations_refusal, directives_refusal, headers_refusal}, specs.Owner.{owns_address, owner_of}}
use Rattle.answers.{proofs.AnswerLaws.accepted_readable, specs.Verdict.verdict_refusal, specs.Relocations.{mask_fault, query_refusal, relocations_of, words_after}, specs.Owner.region_owner_of, specs.BaseRanges.base_range_of}
use Rattle.order.specs.{Sheets.{sheet_a, sheet_b}, Reordered.Reordered, Demand.{Accepted, SameAnswers}}
use Rattle.order.proofs.{Pairings.{alike, exchanged}, Theorem.{demand_3, same_ranges, same_owners}}

-- the two platforms have two masks; the context names no area
pub reordered : Reordered sheet_a sheet_b
unfolding lists_sheet sheet_of head_bytes entry_bytes concat_below le_bytes byte_of sheet_a sheet_b head_of row_kind row_length offset_of body_of kind_of spans fields le_at sum_below area_named
reordered =
    record {
      head = refl;
      whole = refl;
      platforms = exchanged 0 (alike refl refl refl ⨾ alike refl refl refl ⨾ tt) (λ t. omega arith);
      initializations = exchanged 2 (alike refl refl refl ⨾ alike refl refl refl ⨾ alike refl refl refl ⨾ alike refl refl refl ⨾ tt) (λ t. t);
      directives = exchanged 2 (alike refl refl refl ⨾ alike refl refl refl ⨾ alike refl refl refl ⨾ alike refl refl refl ⨾ tt) (λ t. let (x, p, q) = t in false≢true (cc));
    }

pub accepted_a : Accepted limits sheet_a
unfolding
    lists_sheet sheet_of head_bytes entry_bytes concat_below le_bytes byte_of sheet_a ones ones_in any_below first_below last_below sum_below le_at is_fault is_refusal in_row or_else first_fault spans kind_of length_ok platform_types
    is_platform_type platform_type_of vtl_of limits head_of layout_ok within_limits start_fault revision_of page_size_fault row_kind row_length offset_of body_of
    list_at codes_ok row_fault end_fault rows_refusal read_refusal sheet_refusal platform_of initialization_of directive_of shares matches is_one_bit has_bit
    bits_below first_mask is_multiple meets ends_beyond region_passes tables_share overlap validate_platform same_type own_platform_fault platform_fault last_is_cca validate_region
    validate_table bit_without_cca initialization_fault wrong_context_arch allocates inserts is_allocated bad_area own_directive_fault directive_fault no_context no_platform
    no_matching_vp_context platforms_refusal initializations_refusal directives_refusal headers_refusal sheet_headers verdict_refusal
accepted_a = refl

pub swapped : SameAnswers limits sheet_a sheet_b reordered
swapped = demand_3 limits sheet_a sheet_b (accepted_readable limits sheet_a accepted_a) reordered

pub accepted_b : Accepted limits sheet_b
accepted_b = swapped.accepted.0 accepted_a

-- the region at 0x100000 is number 0 in the one sheet and number 1 in the other
pub words_same : (x y : List ℕ) → length x / 8 ≡ length y / 8 → is_refusal (relocations_of limits sheet_a 1 (length x)).refusal ≡ false → (k : ℕ) → k < 8
    → le_at 8 (words_after limits sheet_a 1 x) (64 * 0 + 8 * k) ≡ le_at 8 (words_after limits sheet_b 1 y) (64 * 1 + 8 * k)
unfolding lists_sheet sheet_of head_bytes entry_bytes concat_below le_bytes byte_of sheet_a sheet_b reordered head_of row_kind row_length offset_of body_of kind_of spans fields le_at sum_below sheet_headers initialization_of matches
words_same = swapped.words accepted_a 1 0 (record { below = omega arith; relocatable = refl })

-- and is said to be movable over every range of bases alike
pub ranges_same : (lowest highest : ℕ) → base_range_of limits sheet_a 1 0 lowest highest ≡ base_range_of limits sheet_b 1 1 lowest highest
unfolding lists_sheet sheet_of head_bytes entry_bytes concat_below le_bytes byte_of sheet_a sheet_b reordered head_of row_kind row_length offset_of body_of kind_of spans fields le_at sum_below sheet_headers initialization_of matches
ranges_same =
    same_ranges limits sheet_a sheet_b (accepted_readable limits sheet_a accepted_a) reordered accepted_a 1 0 (record { below = omega arith; relocatable = refl })

-- and owns its last byte: it is row 3 in the one sheet and row 4 in the other
owner_a : (region_owner_of limits sheet_a 1 0x101FFF).answer ≡ 3
unfolding
    lists_sheet sheet_of head_bytes entry_bytes concat_below le_bytes byte_of sheet_a ones ones_in any_below first_below last_below sum_below le_at is_fault is_refusal in_row or_else first_fault spans kind_of length_ok platform_types
    is_platform_type platform_type_of vtl_of limits head_of layout_ok within_limits start_fault revision_of page_size_fault row_kind row_length offset_of body_of
    list_at codes_ok row_fault end_fault rows_refusal read_refusal sheet_refusal platform_of initialization_of directive_of shares matches is_one_bit has_bit
    bits_below first_mask is_multiple contains meets ends_beyond region_passes tables_share overlap validate_platform same_type own_platform_fault platform_fault last_is_cca validate_region
    validate_table bit_without_cca initialization_fault wrong_context_arch allocates inserts is_allocated bad_area own_directive_fault directive_fault no_context no_platform
    no_matching_vp_context platforms_refusal initializations_refusal directives_refusal headers_refusal sheet_headers verdict_refusal mask_fault query_refusal owns_address owner_of region_owner_of
owner_a = refl

pub owner_moves : ((region_owner_of limits sheet_a 1 0x101FFF).answer ≡ 3) × ((region_owner_of limits sheet_b 1 0x101FFF).answer ≡ 4)
unfolding lists_sheet sheet_of head_bytes entry_bytes concat_below le_bytes byte_of sheet_a sheet_b reordered head_of le_at sum_below sheet_headers
owner_moves = (owner_a, (same_owners limits sheet_a sheet_b (accepted_readable limits sheet_a accepted_a) reordered).owner accepted_a 1 0x101FFF 0 owner_a)
