-- Document 01's claims of image B, what reading it finds after a change, what is said of bases, the strict verdict, which row owns an address, and what an index of regions holds, by computation.
use lib.Count.{ones, ones_in}
use Rattle.rows.{proofs.Kit.refl, specs.Below.{any_below, first_below, sum_below, nth_below}}
use Rattle.le.specs.Le.{byte_of, le_at}
use Rattle.lent.specs.Lent.{each_from, bytes_put, words_put}
use Rattle.igvm_defs.{specs.Refusals.{is_fault, is_refusal, in_row, or_else, first_fault}, specs.Kinds.{spans, kind_of, length_ok}, specs.Platforms.{platform_types, is_platform_type, platform_type_of}, specs.Vtls.vtl_of}
use Rattle.masks.specs.Masks.{shares, matches, is_one_bit, has_bit, bits_below, first_mask}
use Rattle.addresses.{specs.Addresses.{is_multiple, contains, meets, ends_beyond}, specs.BaseChecks.base_check}
use Rattle.sheet.{specs.Head.{limits, head_of, layout_ok, within_limits, start_fault, revision_of, page_size_fault}, specs.Table.{row_kind, row_length, offset_of, body_of}, specs.Read.{list_at, codes_ok, row_fault, end_fault, rows_refusal, read_refusal, sheet_refusal}}
use Rattle.platform_header.specs.Platforms.{platform_of}
use Rattle.initialization_header.specs.Initializations.{initialization_of}
use Rattle.directive_header.specs.Directives.{directive_of}
use Rattle.sheet_headers.specs.Headers.{sheet_headers}
use Rattle.rules.{specs.Regions.{region_passes, tables_share, overlap}, specs.Platforms.{validate_platform, same_type, own_platform_fault, platform_fault}, specs.Initializations.{validate_region, validate_table, initialization_fault}, specs.Directives.{wrong_context_arch, bad_area, own_directive_fault, directive_fault, no_context}, specs.Verdict.{no_platform, no_matching_vp_context, platforms_refusal, initializations_refusal, directives_refusal, headers_refusal}, specs.Relocations.{region_count, region_at}, specs.Owner.{owns_address, owner_of, index_count, starts_below, is_in_place, by_start, index_word}, specs.Strict.{bit_without_context, strict_fault, contexts_refusal}}
use Rattle.answers.{specs.Verdict.verdict_refusal, specs.Strict.strict_refusal, specs.Relocations.{mask_fault, query_refusal, region_fault, check_refusal, check_of, answer_of}, specs.Owner.{region_owner_of, index_fault, index_refusal, region_index_of, index_after, region_in}}
use Rattle.image_b.specs.{ImageB.image_b, Claims.{claims, readings, bases, strictly, owners, lookups, AllTrue, indexes, AllIndexed}}

-- one proof for each claim, each held against its own: so a wrong claim is refused where it stands
pub image_b_lem : AllTrue claims × AllTrue readings × AllTrue bases × AllTrue strictly × AllTrue owners × AllTrue lookups × AllIndexed indexes
unfolding
    ones ones_in any_below first_below sum_below nth_below le_at is_fault is_refusal in_row or_else first_fault spans kind_of length_ok platform_types
    is_platform_type platform_type_of vtl_of limits head_of layout_ok within_limits start_fault revision_of page_size_fault row_kind row_length offset_of body_of
    list_at codes_ok row_fault end_fault rows_refusal read_refusal sheet_refusal image_b platform_of initialization_of directive_of shares matches is_one_bit
    has_bit bits_below first_mask is_multiple contains meets ends_beyond base_check region_passes tables_share overlap validate_platform same_type own_platform_fault platform_fault validate_region validate_table
    initialization_fault wrong_context_arch bad_area own_directive_fault directive_fault no_context no_platform no_matching_vp_context platforms_refusal initializations_refusal
    directives_refusal headers_refusal region_count region_at sheet_headers verdict_refusal mask_fault region_fault check_refusal check_of answer_of
    bit_without_context strict_fault contexts_refusal strict_refusal owns_address owner_of query_refusal region_owner_of
    index_count starts_below is_in_place by_start index_word index_fault index_refusal region_index_of index_after region_in byte_of each_from bytes_put words_put
image_b_lem = (
  (refl, (refl, (refl, (refl, (refl, (refl, (refl, (refl, (refl, (refl, (refl, (refl, (refl, tt))))))))))))),
  (refl, (refl, (refl, (refl, (refl, (refl, (refl, (refl, (refl, (refl, (refl, (refl, (refl, (refl, (refl, tt))))))))))))))),
  (refl, (refl, (refl, (refl, (refl, (refl, (refl, (refl, (refl, (refl, (refl, tt))))))))))),
  (refl, (refl, (refl, (refl, (refl, (refl, (refl, (refl, (refl, (refl, (refl, (refl, (refl, (refl, tt)))))))))))))),
  (refl, (refl, (refl, (refl, (refl, (refl, (refl, (refl, (refl, (refl, (refl, (refl, (refl, (refl, (refl, (refl, (refl, (refl, (refl, (refl, (refl, (refl, tt)))))))))))))))))))))),
  (refl, (refl, (refl, (refl, (refl, (refl, (refl, (refl, (refl, (refl, (refl, (refl, (refl, (refl, (refl, tt))))))))))))))),
  (refl, (refl, (refl, (refl, (refl, (refl, (refl, (refl, (refl, (refl, tt)))))))))),
)
