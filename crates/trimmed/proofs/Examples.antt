-- Rows dropped from a real sheet, of both lists and the page-table region among them: the premise is met, and the theorem applies. The trimmed sheets are held to
-- their bytes.
use lib.Count.{ones, ones_in}
use Rattle.rows.{proofs.Kit.{◌≡◌, refl, true, ap, false≢true, none, some, ℕ, arith}, specs.Below.{any_below, first_below, last_below, sum_below, nth_below}, specs.Lists.remaining_index}
use Rattle.le.{specs.Le.{le_at, byte_of}, specs.Bytes.{concat_below, le_bytes}}
use Rattle.igvm_defs.{specs.Refusals.{no_refusal, is_fault, is_refusal, in_row, or_else, first_fault}, specs.Kinds.{spans, kind_of, length_ok}, specs.Platforms.{platform_types, is_platform_type, platform_type_of}, specs.Vtls.vtl_of, proofs.Runs.{◌⨾◌, each}}
use Rattle.masks.specs.Masks.{shares, matches, is_one_bit, has_bit, bits_below, first_mask}
use Rattle.addresses.specs.Addresses.{is_multiple, meets, ends_beyond}
use Rattle.sheet.{specs.Head.{limits, head_of, layout_ok, within_limits, start_fault, revision_of, page_size_fault}, specs.Table.{row_kind, row_length, offset_of, body_of}, specs.Read.{list_at, codes_ok, row_fault, end_fault, rows_refusal, read_refusal, sheet_refusal}}
use Rattle.platform_header.specs.Platforms.{platform_of}
use Rattle.initialization_header.specs.Initializations.{initialization_of}
use Rattle.directive_header.specs.Directives.{directive_of}
use Rattle.sheet_headers.specs.Headers.{sheet_headers}
use Rattle.rules.{specs.Regions.{region_passes, tables_share, overlap}, specs.Platforms.{validate_platform, same_type, own_platform_fault, platform_fault, last_is_cca}, specs.Initializations.{validate_region, validate_table, bit_without_cca, initialization_fault}, specs.Directives.{wrong_context_arch, allocates, inserts, is_allocated, bad_area, own_directive_fault, directive_fault, no_context}, specs.Relocations.{region_count, page_table_at}, specs.Verdict.{no_platform, no_matching_vp_context, platforms_refusal, initializations_refusal, directives_refusal, headers_refusal}}
use Rattle.answers.specs.{declared.Relocations.Relocations, Verdict.{verdict_refusal, verdict_of}, Relocations.{mask_fault, words_fault, relocations_refusal, found_of, relocations_of, base_check_of, contains_of}, BaseRanges.base_range_of}
use Rattle.sheet_of.{specs.SheetOf.{head_bytes, entry_bytes, sheet_of}, specs.Lists.{lists_sheet, sheet_rows}, proofs.SheetOfLaws.limits_fit}
use Rattle.order.{specs.Sheets.{sheet_a, insert_last}, proofs.Swap.accepted_a}
use Rattle.trimmed.specs.{Trimmed.{trimmed_sheet, directive_kind, is_vbs_context, Trimmable}, Answers.{remaining_count, remaining_table, Remains, TrimmedAnswers}, Beside.TrimmedBeside, Sheets.{all_but, some_dropped, some_left, context_dropped, context_less, area_dropped, area_less, inserted_dropped, insert_left}}
use Rattle.trimmed.proofs.Theorem.{request_14, trimmed_beside}

-- the trimmed sheets are these bytes
pub sheets :
    (trimmed_sheet some_dropped sheet_a ≡ some_left)
    × (trimmed_sheet context_dropped sheet_a ≡ context_less)
    × (trimmed_sheet area_dropped sheet_a ≡ area_less)
    × (trimmed_sheet inserted_dropped insert_last ≡ insert_left)
unfolding
    trimmed_sheet some_left context_less area_less insert_left sheet_a insert_last lists_sheet sheet_rows sheet_of head_bytes entry_bytes concat_below le_bytes le_at byte_of sum_below nth_below
    remaining_index all_but head_of row_kind row_length offset_of body_of
sheets = (refl, refl, refl, refl)

-- ---- the premise is met

pub some_trimmable : Trimmable limits some_dropped sheet_a
unfolding lists_sheet sheet_of head_bytes entry_bytes concat_below le_bytes byte_of sheet_a head_of row_kind le_at sum_below all_but
some_trimmable =
    record {
      accepted = accepted_a;
      contexts = λ j below.
          each (λ j. is_vbs_context (directive_kind sheet_a j) ≡ true → some_dropped.directives j ≡ true) 0 4
          ((λ e. refl) ⨾ (λ e. refl) ⨾ (λ e. refl) ⨾ (λ e. absurd (false≢true e)) ⨾ tt) j (omega arith) below;
      areas = λ i area _ _ _ j below k _.
          each (λ j. directive_kind sheet_a j ≡ 33 → some_dropped.directives j ≡ true) 0 4
          ((λ e. refl) ⨾ (λ e. refl) ⨾ (λ e. refl) ⨾ (λ e. absurd (omega arith)) ⨾ tt) j (omega arith) below k;
    }

-- ---- and the theorem applies

pub some_answers : TrimmedAnswers limits some_dropped sheet_a
some_answers = request_14 some_dropped sheet_a some_trimmable

pub some_beside : TrimmedBeside limits some_dropped sheet_a
some_beside = trimmed_beside limits limits_fit some_dropped sheet_a some_trimmable

-- accepted with 2, 2 and 3 rows, which were 2, 4 and 4
pub some_verdict : verdict_of limits some_left ≡ record { refusal = no_refusal; platforms = 2; initializations = 2; directives = 3 }
unfolding lists_sheet sheet_of head_bytes entry_bytes concat_below le_bytes byte_of sheet_a head_of le_at sum_below all_but
some_verdict = rw sheets.0 at some_answers.verdict

-- of two regions and a page table the second region is left
old_list : relocations_of limits sheet_a 1 128 ≡ found_of 2 (some (record { gpa = 0x104000; size = 0x2000; used_size = 0x1000; vp_index = 0; vtl = 0 })) no_refusal
unfolding
    lists_sheet sheet_of head_bytes entry_bytes concat_below le_bytes byte_of sheet_a ones ones_in any_below first_below last_below sum_below nth_below le_at is_fault is_refusal in_row or_else first_fault spans kind_of length_ok platform_types
    is_platform_type platform_type_of vtl_of limits head_of layout_ok within_limits start_fault revision_of page_size_fault row_kind row_length offset_of body_of
    list_at codes_ok row_fault end_fault rows_refusal read_refusal sheet_refusal platform_of initialization_of directive_of shares matches is_one_bit has_bit
    bits_below first_mask is_multiple meets ends_beyond region_passes tables_share overlap validate_platform same_type own_platform_fault platform_fault last_is_cca validate_region
    validate_table bit_without_cca initialization_fault wrong_context_arch allocates inserts is_allocated bad_area own_directive_fault directive_fault no_context no_platform
    no_matching_vp_context platforms_refusal initializations_refusal directives_refusal headers_refusal sheet_headers verdict_refusal mask_fault words_fault relocations_refusal relocations_of
    region_count page_table_at
old_list = refl

pub some_list : relocations_of limits some_left 1 128 ≡ found_of 1 none no_refusal
unfolding
    lists_sheet sheet_of head_bytes entry_bytes concat_below le_bytes byte_of sheet_a ones ones_in sum_below nth_below le_at vtl_of head_of row_kind row_length offset_of body_of initialization_of matches sheet_headers all_but remaining_count remaining_table is_refusal
some_list = rw sheets.0 at (some_answers.relocations 1 128 (ap (λ (r : Relocations). is_refusal r.refusal) old_list))

-- it is number 0 and was number 1, and the checks answer as they did
second : Remains some_dropped sheet_a 1 1
unfolding lists_sheet sheet_of head_bytes entry_bytes concat_below le_bytes byte_of sheet_a head_of row_kind row_length offset_of body_of le_at sum_below sheet_headers initialization_of matches all_but
second = record { region = record { below = omega arith; relocatable = refl }; there = refl }

pub some_checks : ((base : ℕ) → base_check_of limits some_left 1 0 base ≡ base_check_of limits sheet_a 1 1 base)
    × ((gpa : ℕ) → contains_of limits some_left 1 0 gpa ≡ contains_of limits sheet_a 1 1 gpa)
    × ((lowest highest : ℕ) → base_range_of limits some_left 1 0 lowest highest ≡ base_range_of limits sheet_a 1 1 lowest highest)
unfolding lists_sheet sheet_of head_bytes entry_bytes concat_below le_bytes byte_of sheet_a head_of row_kind row_length offset_of body_of le_at sum_below sheet_headers initialization_of matches all_but
some_checks = (
  λ base. rw sheets.0 at (some_answers.base 1 1 second base),
  λ gpa. rw sheets.0 at (some_answers.contains 1 1 second gpa),
  λ lowest highest. rw sheets.0 at (some_beside.range 1 1 second lowest highest),
)
