-- Demand 3 with a condition left out is false: with directives naming one area free to move, or the inserts among them alone, with platforms of one
-- mask free to move, and with bytes left over. Each by two sheets, the first accepted and the second refused.
use lib.Count.{ones, ones_in}
use Rattle.rows.{proofs.Kit.{◌≡◌, refl, true≢false, ◌≢◌}, specs.Below.{any_below, first_below, last_below, sum_below}}
use Rattle.le.specs.{Le.{le_at, byte_of}, Bytes.{concat_below, le_bytes}}
use Rattle.sheet_of.specs.{SheetOf.{head_bytes, entry_bytes, sheet_of}, Lists.lists_sheet}
use Rattle.igvm_defs.{specs.Refusals.{refusal, is_fault, is_refusal, in_row, or_else, first_fault}, specs.Kinds.{spans, kind_of, fields, length_ok}, specs.Platforms.{platform_types, is_platform_type, platform_type_of}, proofs.Runs.◌⨾◌}
use Rattle.masks.specs.Masks.{shares, is_one_bit, has_bit, bits_below, first_mask}
use Rattle.addresses.specs.Addresses.{is_multiple}
use Rattle.sheet.{specs.Head.{limits, head_of, layout_ok, within_limits, start_fault, revision_of, page_size_fault}, specs.Table.{row_kind, row_length, offset_of, body_of}, specs.Read.{list_at, codes_ok, row_fault, end_fault, rows_refusal, read_refusal, sheet_refusal}}
use Rattle.platform_header.specs.Platforms.{platform_of}
use Rattle.initialization_header.specs.Initializations.{initialization_of}
use Rattle.directive_header.specs.Directives.{directive_of}
use Rattle.sheet_headers.specs.Headers.{sheet_headers}
use Rattle.rules.{specs.Regions.region_passes, specs.Platforms.{validate_platform, same_type, own_platform_fault, platform_fault, last_is_cca}, specs.Initializations.{bit_without_cca, initialization_fault}, specs.Directives.{wrong_context_arch, allocates, inserts, is_allocated, bad_area, own_directive_fault, directive_fault}, specs.Verdict.{no_platform, no_matching_vp_context, platforms_refusal, initializations_refusal, directives_refusal, headers_refusal}}
use Rattle.answers.{proofs.AnswerLaws.accepted_readable, specs.Verdict.verdict_refusal}
use Rattle.order.specs.{Sheets.{area_first, area_last, insert_last, insert_first, cca_last, cca_first, plain, longer}, Weakened.{Statement, Whole, AnyEnd, NoneTied, OneAreaNotInserted}, Reordered.{OneMask, OneArea, Reordered}, Demand.Accepted}
use Rattle.order.proofs.{Pairings.{alike, unmoved, exchanged}, Theorem.demand_3}

verdicts :
    (Accepted limits area_first)
    × (verdict_refusal limits area_last ≡ refusal 32 2 0)
    × (Accepted limits insert_last)
    × (verdict_refusal limits insert_first ≡ refusal 32 2 0)
    × (Accepted limits cca_last)
    × (verdict_refusal limits cca_first ≡ refusal 25 3 1)
    × (Accepted limits plain)
    × (verdict_refusal limits longer ≡ refusal 6 0 0)
unfolding
    lists_sheet sheet_of head_bytes entry_bytes concat_below le_bytes byte_of area_first area_last insert_last insert_first cca_last cca_first plain longer ones ones_in any_below first_below last_below sum_below le_at is_fault is_refusal in_row or_else first_fault
    spans kind_of length_ok platform_types is_platform_type platform_type_of limits head_of layout_ok within_limits start_fault revision_of page_size_fault row_kind
    row_length offset_of body_of list_at codes_ok row_fault end_fault rows_refusal read_refusal sheet_refusal platform_of initialization_of directive_of shares
    is_one_bit has_bit bits_below first_mask is_multiple region_passes validate_platform same_type own_platform_fault platform_fault last_is_cca bit_without_cca initialization_fault
    wrong_context_arch allocates inserts is_allocated bad_area own_directive_fault directive_fault no_platform no_matching_vp_context platforms_refusal initializations_refusal
    directives_refusal headers_refusal sheet_headers verdict_refusal
verdicts = (refl, refl, refl, refl, refl, refl, refl, refl)

-- with all of its conditions it is a part of demand 3
pub all_asked : Statement Whole OneMask OneArea
all_asked a b ok head whole platforms initializations directives =
    let R : Reordered a b = record { head = head; whole = whole; platforms = platforms; initializations = initializations; directives = directives } in
    (demand_3 limits a b ok R).accepted.0

-- directives naming one area must keep their order: here the area is named before it is allocated
pub areas_keep : Statement Whole OneMask NoneTied → ⊥
unfolding lists_sheet sheet_of head_bytes entry_bytes concat_below le_bytes byte_of area_first area_last is_refusal head_of row_kind row_length offset_of body_of kind_of spans fields le_at sum_below
areas_keep f =
    let accepted = verdicts.0 in
    let refused = verdicts.1 in
    let platforms = unmoved 1 (alike refl refl refl ⨾ tt) in
    let directives = exchanged 0 (alike refl refl refl ⨾ alike refl refl refl ⨾ tt) (λ t. t) in
    true≢false (rw refused at (f area_first area_last (accepted_readable limits area_first accepted) refl refl platforms (unmoved 0 tt) directives accepted))

-- so must the inserts among them: here the area is inserted before it is allocated
pub inserts_keep : Statement Whole OneMask OneAreaNotInserted → ⊥
unfolding lists_sheet sheet_of head_bytes entry_bytes concat_below le_bytes byte_of insert_last insert_first is_refusal head_of row_kind row_length offset_of body_of kind_of spans fields le_at sum_below
inserts_keep f =
    let accepted = verdicts.2 in
    let refused = verdicts.3 in
    let platforms = unmoved 1 (alike refl refl refl ⨾ tt) in
    let directives = exchanged {a = insert_last} {Tied = OneAreaNotInserted insert_last} {first = 1} 0 (alike refl refl refl ⨾ alike refl refl refl ⨾ tt) (λ t. t.1 refl) in
    true≢false (rw refused at (f insert_last insert_first (accepted_readable limits insert_last accepted) refl refl platforms (unmoved 0 tt) directives accepted))

-- platforms of one mask must keep theirs: here CCA is the last no more
pub platforms_keep : Statement Whole NoneTied OneArea → ⊥
unfolding lists_sheet sheet_of head_bytes entry_bytes concat_below le_bytes byte_of cca_last cca_first is_refusal head_of row_kind row_length offset_of body_of kind_of spans fields le_at sum_below
platforms_keep f =
    let accepted = verdicts.4 in
    let refused = verdicts.5 in
    let platforms = exchanged 0 (alike refl refl refl ⨾ alike refl refl refl ⨾ tt) (λ t. t) in
    let initializations = unmoved 1 (alike refl refl refl ⨾ tt) in
    true≢false (rw refused at (f cca_last cca_first (accepted_readable limits cca_last accepted) refl refl platforms initializations (unmoved 0 tt) accepted))

-- no byte may be left over
pub nothing_left : Statement AnyEnd OneMask OneArea → ⊥
unfolding lists_sheet sheet_of head_bytes entry_bytes concat_below le_bytes byte_of plain longer is_refusal head_of row_kind row_length offset_of body_of kind_of spans fields le_at sum_below
nothing_left f =
    let accepted = verdicts.6 in
    let refused = verdicts.7 in
    let platforms = unmoved 1 (alike refl refl refl ⨾ tt) in
    true≢false (rw refused at (f plain longer (accepted_readable limits plain accepted) refl tt platforms (unmoved 0 tt) (unmoved 0 tt) accepted))
