-- Request 14: the theorem.
use Rattle.rows.{proofs.Kit.{◌≡◌, sym, ap, ◌∙◌, true, false, cond, ◌≢◌, List, ℕ, ◌<◌, ◌≤◌, arith, length}, specs.Paired.Free, proofs.Bools.and_both, proofs.BelowLaws.{count_lt, nth_number}, proofs.PairedLaws.sum_there, proofs.RemainingLaws.remaining_into}
use Rattle.igvm_defs.specs.Refusals.{no_refusal, is_refusal}
use Rattle.lent.{specs.Lent.rows_put, proofs.LentLaws.rows_same}
use Rattle.sheet.specs.Head.{Limits, limits}
use Rattle.sheet_headers.specs.Headers.{sheet_headers}
use Rattle.rules.{specs.Relocations.{is_relocatable, region_count, region_at, page_table_at, region_contains}, specs.Strict.contexts_refusal, proofs.Acceptance.accepted_says, proofs.QueryLaws.{one_table, number_below, region_found}, proofs.StrictLaws.{contexts_say, within_bits}, proofs.SameHeaders.{same_contexts, region_count_rows, region_at_rows, page_table_rows}}
use Rattle.answers.{specs.Verdict.verdict_of, specs.Strict.strict_verdict_of, specs.Relocations.{sheet_initializations, relocations_refusal, found_of, relocations_of, region_words, words_after, base_number}, proofs.AnswerLaws.{regions_of, accepted_headers, accepted_none, list_says, list_refusal, list_fine, list_found, found_count}, proofs.SameRegion.{check_same, answer_same, range_same}, proofs.StrictLaws.{strictly_accepted, strict_accepted}}
use Rattle.sheet_of.{specs.SheetOf.LimitsFit, specs.Lists.sheet_rows, proofs.SheetOfLaws.limits_fit}
use Rattle.order.specs.{Demand.{Accepted, number_in}, Strict.StrictlyAccepted}
use Rattle.trimmed.specs.{Trimmed.{Remain, trimmed_sheet, Trimmable}, Answers.{remaining_verdict, is_remaining_region, remaining_count, remaining_at, remaining_table, Remains, new_number, TrimmedAnswers}, Beside.TrimmedBeside}
use Rattle.trimmed.proofs.{HeadersLaws.{trimmed_headers, trimmed_count, trimmed_region, trimmed_table}, SheetLaws.{trimmed_head, trimmed_headers_lem, within, trimmed_accepted}, OwnerLaws.{owner_remains, owner_dropped, no_owner}}

module _ (l : Limits) (fit : LimitsFit l) (remain : Remain) (s : List ℕ) (T : Trimmable l remain s) where
  accepted : Accepted l (trimmed_sheet remain s)
  accepted = trimmed_accepted l fit remain s T

  -- ---- the regions of a mask

  counts : (given : ℕ) → regions_of (trimmed_sheet remain s) given ≡ remaining_count remain (sheet_initializations s) given
  counts given = region_count_rows (trimmed_headers_lem l fit remain s T).initializations given ∙ trimmed_count remain (sheet_initializations s) given

  at : (given k : ℕ) → region_at (sheet_initializations (trimmed_sheet remain s)) given k ≡ remaining_at remain (sheet_initializations s) given k
  at given k = region_at_rows (trimmed_headers_lem l fit remain s T).initializations given k ∙ trimmed_region remain (sheet_initializations s) given k

  table : (given : ℕ) → given ≢ 0 → page_table_at (sheet_initializations (trimmed_sheet remain s)) given ≡ remaining_table remain (sheet_initializations s) given
  table given nonzero =
      let accepts = (accepted_says (sheet_headers s)).0 (accepted_headers l s T.accepted) in
      page_table_rows (trimmed_headers_lem l fit remain s T).initializations given
      ∙ trimmed_table remain (sheet_initializations s) given (one_table (sheet_initializations s) accepts.tables given nonzero)

  fewer : (given : ℕ) → regions_of (trimmed_sheet remain s) given ≤ regions_of s given
  unfolding region_count
  fewer given =
      let e = region_count_rows (trimmed_headers_lem l fit remain s T).initializations given in
      let m = sum_there (remaining_into remain.initializations (sheet_initializations s) Free) (λ h. cond (is_relocatable given h) 1 0) in
      omega arith

  -- ---- the region list

  nothing_refused : (given bytes : ℕ) → is_refusal (relocations_of l s given bytes).refusal ≡ false → relocations_refusal l (trimmed_sheet remain s) given bytes ≡ no_refusal
  nothing_refused given bytes f =
      let (_, n, r) = list_says l s given bytes (rw (list_refusal l s given bytes) at f) in
      let m = fewer given in
      list_fine l (trimmed_sheet remain s) given bytes accepted n (omega arith)

  list : (given bytes : ℕ) → is_refusal (relocations_of l s given bytes).refusal ≡ false
      → relocations_of l (trimmed_sheet remain s) given bytes
      ≡ found_of (remaining_count remain (sheet_initializations s) given) (remaining_table remain (sheet_initializations s) given) no_refusal
  unfolding is_refusal
  list given bytes f =
      let e = nothing_refused given bytes f in
      let (_, n, _) = list_says l s given bytes (rw (list_refusal l s given bytes) at f) in
      list_found l (trimmed_sheet remain s) given bytes (rw e) ∙ rw (e, counts given, table given n)

  words : (given : ℕ) (x : List ℕ) → is_refusal (relocations_of l s given (length x)).refusal ≡ false
      → words_after l (trimmed_sheet remain s) given x
      ≡ rows_put (remaining_count remain (sheet_initializations s) given) (λ n. region_words (remaining_at remain (sheet_initializations s) given n)) x
  unfolding words_after
  words given x f = rw (list given (length x) f, found_count) (rows_same _ _ _ x (λ n _. ap region_words (at given n)))

  -- ---- a region that remains, by its new number and by its old one

  module _ (given j : ℕ) (R : Remains remain s given j) where
    passes : is_remaining_region remain (sheet_initializations s) given j ≡ true
    passes = and_both _ _ R.region.relocatable R.there

    pub number_in_lem : new_number remain s given j < regions_of (trimmed_sheet remain s) given
    unfolding remaining_count
    number_in_lem = rw (counts given) (count_lt j (sheet_initializations s).count (is_remaining_region remain (sheet_initializations s) given) R.region.below passes)

    old_number : number_in s given j < regions_of s given
    old_number = number_below (sheet_initializations s) given j R.region.below R.region.relocatable

    found : region_at (sheet_initializations (trimmed_sheet remain s)) given (new_number remain s given j) ≡ region_at (sheet_initializations s) given (number_in s given j)
    unfolding remaining_at
    found =
        at given (new_number remain s given j)
        ∙ rw (nth_number (sheet_initializations s).count (is_remaining_region remain (sheet_initializations s) given) j R.region.below passes)
        (sym (region_found (sheet_initializations s) given j R.region.below R.region.relocatable))

  -- ---- the verdicts

  verdict : verdict_of l (trimmed_sheet remain s) ≡ remaining_verdict remain s
  unfolding verdict_of is_refusal sheet_rows
  verdict = rw (accepted_none l (trimmed_sheet remain s) accepted, trimmed_head l fit remain s T)

  strict : StrictlyAccepted l s → strict_verdict_of l (trimmed_sheet remain s) ≡ remaining_verdict remain s
  unfolding sheet_rows
  strict h =
      let (_, bits) = (strictly_accepted l s).0 h in
      let f = sheet_headers s in
      let g = trimmed_headers remain f in
      let c : is_refusal (contexts_refusal (sheet_headers (trimmed_sheet remain s))) ≡ false =
      rw (same_contexts (trimmed_headers_lem l fit remain s T)) ((contexts_say g).1 (within_bits g f (within l fit remain s T) bits)) in
      rw (strict_accepted l (trimmed_sheet remain s) ((strictly_accepted l (trimmed_sheet remain s)).1 (accepted, (contexts_say (sheet_headers (trimmed_sheet remain s))).0 c)), trimmed_head l fit remain s T)

  -- REQUEST 14, for any limits that the fields of head and table can hold
  pub trimmed_answers : TrimmedAnswers l remain s
  trimmed_answers =
      record {
        verdict = verdict;
        strict = strict;
        relocations = list;
        words = words;
        base = λ given j R base.
            answer_same l (trimmed_sheet remain s) s accepted T.accepted given _ _ (number_in_lem given j R) (old_number given j R) (found given j R) (base_number base);
        contains = λ given j R gpa.
            check_same l (trimmed_sheet remain s) s accepted T.accepted given _ _ (number_in_lem given j R) (old_number given j R) (found given j R) (λ r. region_contains r gpa);
      }

  -- and ranges of bases and the owner of an address beside it
  pub trimmed_beside : TrimmedBeside l remain s
  trimmed_beside =
      record {
        range = λ given j R lowest highest.
            range_same l (trimmed_sheet remain s) s accepted T.accepted given _ _ (number_in_lem given j R) (old_number given j R) (found given j R) lowest highest;
        owner = λ given gpa j e r. owner_remains l fit remain s T given gpa j e r;
        dropped = λ given gpa j e r. owner_dropped l fit remain s T given gpa j e r;
        none = λ given gpa e. no_owner l fit remain s T given gpa e;
      }

-- under the limits in force
pub request_14 : (remain : Remain) (s : List ℕ) → Trimmable limits remain s → TrimmedAnswers limits remain s
request_14 remain s T = trimmed_answers limits limits_fit remain s T
