-- The trimmed sheet: its headers are those that remain, and it is accepted.
use Rattle.rows.{proofs.Kit.{◌≡◌, ◌∙◌, Bool, true, List, ℕ, ◌<◌, ◌≤◌, arith, length}, specs.Below.sum_below, specs.Rows.Rows, specs.Paired.Free, specs.Lists.remaining, proofs.BelowLaws.count_le, proofs.SameLaws.rows_refl, proofs.PairedLaws.sum_there, proofs.RemainingLaws.{place, remaining_into, all_remain}}
use Rattle.le.specs.Bytes.{IsBytes}
use Rattle.igvm_defs.specs.{Kinds.{initialization_list, directive_list}, Revision.page_size_of}
use Rattle.sheet.{specs.Head.{Limits, head_of, revision_of}, specs.Read.Readable, proofs.Readable.{Started, readable_reads}}
use Rattle.sheet_headers.specs.Headers.{sheet_headers}
use Rattle.rules.{specs.Accepted.NotRefused, proofs.Acceptance.accepted_says, proofs.Within.{Within, within_accepted}, proofs.SameHeaders.SameHeaders}
use Rattle.sheet_of.{specs.SheetOf.{Row, LimitsFit}, specs.Offered.bytes_of, specs.Lists.{RowLists, all_rows, head_with, lists_headers, sheet_rows}, proofs.ListsLaws.{AllPass, ListsSound, lists_bytes, lists_head, lists_headers_lem, lists_same, within_limits_lem, lists_accepted}, proofs.OwnRows.{platforms_pass, initializations_pass, directives_pass, sheet_bytes_lem, head_zeroes, head_page_size, own_lists}}
use Rattle.answers.proofs.AnswerLaws.{accepted_readable, accepted_page_size, accepted_headers}
use Rattle.order.specs.Demand.{Accepted}
use Rattle.trimmed.specs.Trimmed.{Remain, remaining_rows, trimmed_sheet, Trimmable}
use Rattle.trimmed.proofs.HeadersLaws.{trimmed_headers, trimmed_within}

-- ---- the rows that remain

rows_pass : (list : ℕ) (remains : ℕ → Bool) (xs : Rows Row) → AllPass list xs → AllPass list (remaining remains xs)
rows_pass list remains xs h i m = h _ (place remains xs.count i m).below

fewer_bytes : (remains : ℕ → Bool) (xs : Rows Row)
    → sum_below (remaining remains xs).count (λ i. length ((remaining remains xs).row i).body) ≤ sum_below xs.count (λ i. length (xs.row i).body)
fewer_bytes remains xs = sum_there (remaining_into remains xs Free) (λ r. length r.body)

module _ (l : Limits) (fit : LimitsFit l) (remain : Remain) (s : List ℕ) (T : Trimmable l remain s) where
  readable : Readable l s
  readable = accepted_readable l s T.accepted

  started : Started l s
  started = (readable_reads l s readable).start

  page_size_lem : page_size_of (revision_of (head_of s)) ≡ 4096
  page_size_lem = accepted_page_size l s T.accepted

  rows : RowLists
  rows = remaining_rows remain (sheet_rows s)

  sound : ListsSound (head_of s) rows
  unfolding sheet_rows rows
  sound =
      let st = started in
      let (z, z2) = head_zeroes (head_of s) st.layout in
      let a = count_le (head_of s).initializations remain.initializations in
      let b = count_le (head_of s).directives remain.directives in
      record {
        reserved = z;
        reserved2 = z2;
        page_size_lem = head_page_size (head_of s) st.layout page_size_lem;
        layout = st.layout;
        platform_count = omega arith;
        initialization_count = omega arith;
        directive_count = omega arith;
        platforms = platforms_pass l s readable fit.bytes;
        initializations = rows_pass initialization_list remain.initializations (sheet_rows s).initializations (initializations_pass l s readable fit.bytes);
        directives = rows_pass directive_list remain.directives (sheet_rows s).directives (directives_pass l s readable fit.bytes);
      }

  pub trimmed_head : head_of (trimmed_sheet remain s) ≡ head_with (head_of s) (remaining_rows remain (sheet_rows s))
  unfolding trimmed_sheet rows
  trimmed_head = lists_head (head_of s) rows sound

  pub trimmed_headers_lem : SameHeaders (sheet_headers (trimmed_sheet remain s)) (trimmed_headers remain (sheet_headers s))
  unfolding trimmed_sheet sheet_headers lists_headers sheet_rows rows
  trimmed_headers_lem = lists_headers_lem (head_of s) rows sound

  pub within : Within (trimmed_headers remain (sheet_headers s)) (sheet_headers s)
  within = trimmed_within l remain s readable T.contexts T.areas

  pub trimmed_not_refused : NotRefused (trimmed_headers remain (sheet_headers s))
  trimmed_not_refused =
      let f = sheet_headers s in
      let g = trimmed_headers remain f in
      (accepted_says g).1 (within_accepted g f within ((accepted_says f).0 (accepted_headers l s T.accepted)))

  rows_not_refused : NotRefused (lists_headers (head_of s) rows)
  unfolding sheet_headers lists_headers sheet_rows rows
  rows_not_refused = trimmed_not_refused

  fewer : bytes_of (head_with (head_of s) rows) (all_rows rows).row ≤ length s
  unfolding rows
  fewer =
      let a = count_le (sheet_rows s).initializations.count remain.initializations in
      let b = count_le (sheet_rows s).directives.count remain.directives in
      let c = fewer_bytes remain.initializations (sheet_rows s).initializations in
      let d = fewer_bytes remain.directives (sheet_rows s).directives in
      let e = sheet_bytes_lem l s readable fit.bytes in
      let f = lists_bytes (head_of s) (remaining_rows remain (sheet_rows s)) in
      omega arith

  pub trimmed_accepted : Accepted l (trimmed_sheet remain s)
  unfolding trimmed_sheet sheet_rows rows
  trimmed_accepted =
      let st = started in
      let a = count_le (head_of s).initializations remain.initializations in
      let b = count_le (head_of s).directives remain.directives in
      let c = fewer in
      lists_accepted l (head_of s) rows sound page_size_lem
      (within_limits_lem l _ _ st.platforms (omega arith) (omega arith) (omega arith)) rows_not_refused

-- where nothing is dropped, the trimmed sheet is the sheet
pub nothing_dropped : (l : Limits) (remain : Remain) (s : List ℕ) → Readable l s → IsBytes s
    → ((i : ℕ) → i < (head_of s).initializations → remain.initializations i ≡ true) → ((j : ℕ) → j < (head_of s).directives → remain.directives j ≡ true)
    → trimmed_sheet remain s ≡ s
unfolding trimmed_sheet sheet_rows
nothing_dropped l remain s ok bytes a b =
    lists_same (head_of s) (remaining_rows remain (sheet_rows s)) (sheet_rows s) (record {
      platforms = rows_refl (sheet_rows s).platforms;
      initializations = all_remain remain.initializations (sheet_rows s).initializations a;
      directives = all_remain remain.directives (sheet_rows s).directives b;
    })
    ∙ own_lists l s ok bytes
