-- Request 14 with a condition left out is false: with contexts free to go, with areas free to go, and with those free to go that only inserts name. Each by a real
-- sheet that is accepted, and refused without the row.
use lib.Count.{ones, ones_in}
use Rattle.rows.{proofs.Kit.{◌≡◌, refl, true, false≢true, true≢false, arith}, specs.Below.{any_below, first_below, last_below, sum_below}}
use Rattle.le.specs.{Le.{le_at, byte_of}, Bytes.{concat_below, le_bytes}}
use Rattle.igvm_defs.{specs.Refusals.{refusal, is_fault, is_refusal, in_row, or_else, first_fault}, specs.Kinds.{spans, kind_of, length_ok}, specs.Platforms.{platform_types, is_platform_type, platform_type_of}, specs.Vtls.vtl_of, proofs.Runs.{◌⨾◌, each}}
use Rattle.masks.specs.Masks.{shares, matches, is_one_bit, has_bit, bits_below, first_mask}
use Rattle.addresses.specs.Addresses.{is_multiple, meets, ends_beyond}
use Rattle.sheet.{specs.Head.{limits, head_of, layout_ok, within_limits, start_fault, revision_of, page_size_fault}, specs.Table.{row_kind, row_length, offset_of, body_of}, specs.Read.{list_at, codes_ok, row_fault, end_fault, rows_refusal, read_refusal, sheet_refusal}}
use Rattle.platform_header.specs.Platforms.{platform_of}
use Rattle.initialization_header.specs.Initializations.{initialization_of}
use Rattle.directive_header.specs.Directives.{directive_of}
use Rattle.sheet_headers.specs.Headers.{sheet_headers}
use Rattle.rules.{specs.Regions.{region_passes, tables_share, overlap}, specs.Platforms.{validate_platform, same_type, own_platform_fault, platform_fault, last_is_cca}, specs.Initializations.{validate_region, validate_table, bit_without_cca, initialization_fault}, specs.Directives.{wrong_context_arch, allocates, inserts, is_allocated, bad_area, own_directive_fault, directive_fault, no_context}, specs.Verdict.{no_platform, no_matching_vp_context, platforms_refusal, initializations_refusal, directives_refusal, headers_refusal}}
use Rattle.answers.specs.Verdict.{verdict_refusal}
use Rattle.sheet_of.{specs.SheetOf.{head_bytes, entry_bytes, sheet_of}, specs.Lists.lists_sheet, proofs.SheetOfLaws.limits_fit}
use Rattle.order.{specs.Sheets.{sheet_a, insert_last}, specs.Demand.Accepted, proofs.Swap.accepted_a}
use Rattle.trimmed.specs.{Trimmed.{directive_kind, is_vbs_context, ContextsRemain, AreasRemain}, Weakened.{Statement, Both, InsertsNameNone}, Sheets.{all_but, context_dropped, context_less, area_dropped, area_less, inserted_dropped, insert_left}}
use Rattle.trimmed.proofs.{SheetLaws.trimmed_accepted, Examples.sheets}

verdicts :
    (verdict_refusal limits context_less ≡ refusal 34 0 0)
    × (verdict_refusal limits area_less ≡ refusal 32 8 0)
    × (Accepted limits insert_last)
    × (verdict_refusal limits insert_left ≡ refusal 32 2 0)
unfolding
    lists_sheet sheet_of head_bytes entry_bytes concat_below le_bytes byte_of context_less area_less insert_last insert_left ones ones_in any_below first_below last_below sum_below le_at is_fault is_refusal in_row or_else first_fault spans kind_of length_ok platform_types
    is_platform_type platform_type_of vtl_of limits head_of layout_ok within_limits start_fault revision_of page_size_fault row_kind row_length offset_of body_of
    list_at codes_ok row_fault end_fault rows_refusal read_refusal sheet_refusal platform_of initialization_of directive_of shares matches is_one_bit has_bit
    bits_below first_mask is_multiple meets ends_beyond region_passes tables_share overlap validate_platform same_type own_platform_fault platform_fault last_is_cca validate_region
    validate_table bit_without_cca initialization_fault wrong_context_arch allocates inserts is_allocated bad_area own_directive_fault directive_fault no_context no_platform
    no_matching_vp_context platforms_refusal initializations_refusal directives_refusal headers_refusal sheet_headers verdict_refusal
verdicts = (refl, refl, refl, refl)

-- with both of its conditions it is a part of request 14
pub both_asked : Statement Both
both_asked remain s accepted (contexts, areas) = trimmed_accepted limits limits_fit remain s (record { accepted = accepted; contexts = contexts; areas = areas })

-- all contexts must remain: without the one of this sheet its regions have none (34)
pub contexts_needed : Statement AreasRemain → ⊥
unfolding lists_sheet sheet_of head_bytes entry_bytes concat_below le_bytes byte_of sheet_a head_of row_kind le_at sum_below all_but is_refusal
contexts_needed f =
    let areas : AreasRemain context_dropped sheet_a = λ i area _ _ _ j below k _.
    each (λ j. directive_kind sheet_a j ≡ 33 → context_dropped.directives j ≡ true) 0 4
    ((λ e. absurd (omega arith)) ⨾ (λ e. refl) ⨾ (λ e. refl) ⨾ (λ e. refl) ⨾ tt) j (omega arith) below k in
    true≢false (rw (sheets.1, verdicts.0) at (f context_dropped sheet_a accepted_a areas))

-- so must areas that a remaining row names: without it the parameter names none (32)
contexts_there : ContextsRemain area_dropped sheet_a
unfolding lists_sheet sheet_of head_bytes entry_bytes concat_below le_bytes byte_of sheet_a head_of row_kind le_at sum_below all_but
contexts_there j below =
    each (λ j. is_vbs_context (directive_kind sheet_a j) ≡ true → area_dropped.directives j ≡ true) 0 4
    ((λ e. refl) ⨾ (λ e. absurd (false≢true e)) ⨾ (λ e. refl) ⨾ (λ e. refl) ⨾ tt) j (omega arith) below

pub areas_needed : Statement ContextsRemain → ⊥
unfolding is_refusal
areas_needed f = true≢false (rw (sheets.2, verdicts.1) at (f area_dropped sheet_a accepted_a contexts_there))

-- and inserts name theirs too (32)
pub inserts_name : Statement InsertsNameNone → ⊥
unfolding lists_sheet sheet_of head_bytes entry_bytes concat_below le_bytes byte_of insert_last head_of row_kind le_at sum_below all_but is_refusal
inserts_name f =
    let must : InsertsNameNone inserted_dropped insert_last = (
      λ j below.
          each (λ j. is_vbs_context (directive_kind insert_last j) ≡ true → inserted_dropped.directives j ≡ true) 0 2
          ((λ e. absurd (false≢true e)) ⨾ (λ e. refl) ⨾ tt) j (omega arith) below,
      λ i area below r n _ j _ _ _.
          absurd (each (λ i. inserted_dropped.directives i ≡ true → (directive_kind insert_last i ≡ 50 → ⊥) → ⊥) 0 2
          ((λ e _. false≢true e) ⨾ (λ _ d. d refl) ⨾ tt) i (omega arith) below r n),
    ) in
    true≢false (rw (sheets.3, verdicts.3) at (f inserted_dropped insert_last verdicts.2 must))
