-- The strict verdict on reordered sheets, on bytes: two that are strictly accepted, and two that 38 refuses with another row each. So its row is not kept, as those of other
-- refusals are not.
use lib.Count.{ones, ones_in}
use Rattle.rows.{proofs.Kit.{◌≡◌, refl, sym, ap, ◌∙◌, List, ℕ, arith}, specs.Below.{any_below, first_below, last_below, sum_below}}
use Rattle.le.specs.{Le.{le_at, byte_of}, Bytes.{concat_below, le_bytes}}
use Rattle.sheet_of.specs.{SheetOf.{head_bytes, entry_bytes, sheet_of}, Lists.lists_sheet}
use Rattle.igvm_defs.{specs.declared.Refusal.Refusal, specs.Refusals.{refusal, is_fault, is_refusal, in_row, or_else, first_fault}, specs.Kinds.{spans, kind_of, fields, length_ok}, specs.Platforms.{platform_types, is_platform_type, platform_type_of}, specs.Vtls.vtl_of, proofs.Runs.◌⨾◌}
use Rattle.masks.specs.Masks.{shares, matches, is_one_bit, has_bit, bits_below, first_mask}
use Rattle.addresses.specs.Addresses.{is_multiple, meets, ends_beyond}
use Rattle.sheet.{specs.Head.{limits, head_of, layout_ok, within_limits, start_fault, revision_of, page_size_fault}, specs.Table.{row_kind, row_length, offset_of, body_of}, specs.Read.{Readable, list_at, codes_ok, row_fault, end_fault, rows_refusal, read_refusal, sheet_refusal}}
use Rattle.platform_header.specs.Platforms.{platform_of}
use Rattle.initialization_header.specs.Initializations.{initialization_of}
use Rattle.directive_header.{specs.Directives.directive_of, specs.Fields.area_named}
use Rattle.sheet_headers.specs.Headers.{sheet_headers}
use Rattle.rules.{specs.Regions.{region_passes, tables_share, overlap}, specs.Platforms.{validate_platform, same_type, own_platform_fault, platform_fault, last_is_cca}, specs.Initializations.{validate_region, validate_table, bit_without_cca, initialization_fault}, specs.Directives.{wrong_context_arch, allocates, inserts, is_allocated, bad_area, own_directive_fault, directive_fault, no_context}, specs.Verdict.{no_platform, no_matching_vp_context, platforms_refusal, initializations_refusal, directives_refusal, headers_refusal}, specs.Strict.{bit_without_context, strict_fault, contexts_refusal}}
use Rattle.answers.{proofs.AnswerLaws.accepted_readable, specs.Verdict.verdict_refusal, specs.Strict.strict_refusal}
use Rattle.order.specs.{Sheets.{sheet_a, sheet_b, lacking_first, lacking_last}, Reordered.Reordered, Demand.Accepted, Strict.StrictlyAccepted}
use Rattle.order.proofs.{Pairings.{alike, unmoved, exchanged}, Swap.{reordered, accepted_a}, Theorem.same_strict}

verdicts :
    (StrictlyAccepted limits sheet_a)
    × (Accepted limits lacking_first)
    × (strict_refusal limits lacking_first ≡ refusal 38 2 2)
    × (strict_refusal limits lacking_last ≡ refusal 38 3 2)
unfolding
    lists_sheet sheet_of head_bytes entry_bytes concat_below le_bytes byte_of sheet_a lacking_first lacking_last ones ones_in any_below first_below last_below sum_below le_at is_fault is_refusal in_row or_else first_fault spans kind_of length_ok platform_types
    is_platform_type platform_type_of vtl_of limits head_of layout_ok within_limits start_fault revision_of page_size_fault row_kind row_length offset_of body_of
    list_at codes_ok row_fault end_fault rows_refusal read_refusal sheet_refusal platform_of initialization_of directive_of shares matches is_one_bit has_bit
    bits_below first_mask is_multiple meets ends_beyond region_passes tables_share overlap validate_platform same_type own_platform_fault platform_fault last_is_cca validate_region
    validate_table bit_without_cca initialization_fault wrong_context_arch allocates inserts is_allocated bad_area own_directive_fault directive_fault no_context no_platform
    no_matching_vp_context platforms_refusal initializations_refusal directives_refusal headers_refusal sheet_headers verdict_refusal bit_without_context strict_fault contexts_refusal
    strict_refusal
verdicts = (refl, refl, refl, refl)

-- the rows exchanged in `sheet_b` leave it strictly accepted
pub strictly_b : StrictlyAccepted limits sheet_b
strictly_b = (same_strict limits sheet_a sheet_b (accepted_readable limits sheet_a accepted_a) reordered).0 verdicts.0

lacking_reordered : Reordered lacking_first lacking_last
unfolding lists_sheet sheet_of head_bytes entry_bytes concat_below le_bytes byte_of lacking_first lacking_last head_of row_kind row_length offset_of body_of kind_of spans fields le_at sum_below area_named
lacking_reordered =
    record {
      head = refl;
      whole = refl;
      platforms = unmoved 1 (alike refl refl refl ⨾ tt);
      initializations = exchanged 0 (alike refl refl refl ⨾ alike refl refl refl ⨾ tt) (λ t. t);
      directives = unmoved 1 (alike refl refl refl ⨾ tt);
    }

-- that reordered sheets get the same strict refusal, row and detail too, is false
pub row_moves : ((a b : List ℕ) → Readable limits a → Reordered a b → strict_refusal limits a ≡ strict_refusal limits b) → ⊥
row_moves f =
    let same = f lacking_first lacking_last (accepted_readable limits lacking_first verdicts.1) lacking_reordered in
    let rows : ◌≡◌ {A = ℕ} 2 3 = ap (λ (r : Refusal). r.row) (sym verdicts.2 ∙ same ∙ verdicts.3) in
    omega arith
