-- The sheet made of rows: its refusals 1 to 34 are those of head and rows, and its headers the decoded rows.
use Rattle.rows.{proofs.Kit.{◌≡◌, refl, sym, ◌∙◌, Bool, true, false, not, List, ◌↔◌, ℕ, ◌+◌, ◌<◌, ◌≤◌, arith, length, le-ltb, not-false}, specs.Below.sum_below, specs.Same.SameRows, proofs.BelowLaws.sum_part}
use Rattle.igvm_defs.{specs.declared.Fault.Fault, specs.Refusals.{refusal, no_fault, no_refusal, is_fault, is_refusal, in_row, or_else, first_fault}, proofs.RefusalLaws.{no_fault_lem, row_refusal_lem, no_fault_row, or_else_first, or_else_later, fault_end, faults_any, faults_same}}
use Rattle.sheet.{specs.declared.SheetHead.SheetHead, specs.Head.{Limits, row_count, bodies_at, layout_ok, within_limits, start_fault}, specs.Table.headers_of, specs.Read.{list_at, row_fault, end_fault, rows_refusal, read_refusal, Readable, sheet_refusal}}
use Rattle.platform_header.specs.Platforms.{platform_of}
use Rattle.initialization_header.specs.Initializations.{initialization_of}
use Rattle.directive_header.specs.Directives.{directive_of}
use Rattle.rules.{proofs.FaultLaws.{refuse_none, else_none, rows_none}, proofs.SameHeaders.{SameHeaders, same_refusal}}
use Rattle.sheet_headers.specs.Headers.{sheet_headers}
use Rattle.answers.specs.Verdict.{verdict_refusal}
use Rattle.sheet_of.specs.{SheetOf.{Row, sheet_of, Fits, decoded, row_headers}, Offered.{bytes_of, head_fault, offered_fault, offered_refusal, rows_verdict}}
use Rattle.sheet_of.proofs.SheetOfLaws.{sheet_length, head_is, kind_is, length_is, offset_is, body_is}

-- a first fault that is none has no row and no detail
first_fault_none : (first n : ℕ) (faults : ℕ → Fault) → is_refusal (first_fault first n faults) ≡ false → first_fault first n faults ≡ no_refusal
unfolding first_fault is_refusal
first_fault_none first n faults e = fault_end first n faults (sym (faults_any first n faults) ∙ e)

-- what comes after it is none
else_nothing : (first n : ℕ) (faults : ℕ → Fault) → or_else (first_fault first n faults) (in_row 0 no_fault) ≡ first_fault first n faults
else_nothing first n faults = go (is_refusal (first_fault first n faults)) refl
  where
    go : (b : Bool) → is_refusal (first_fault first n faults) ≡ b → or_else (first_fault first n faults) (in_row 0 no_fault) ≡ first_fault first n faults
    go true e = or_else_first (first_fault first n faults) (in_row 0 no_fault) e
    go false e = or_else_later (first_fault first n faults) (in_row 0 no_fault) e ∙ no_fault_row 0 no_fault no_fault_lem ∙ sym (first_fault_none first n faults e)

module _ (h : SheetHead) (row : ℕ → Row) (f : Fits h row) where
  pub bytes_is : length (sheet_of h row) ≡ bytes_of h row
  unfolding bytes_of
  bytes_is = sheet_length h row

  start_is : (l : Limits) → start_fault l (sheet_of h row) ≡ head_fault l h (bytes_of h row)
  unfolding start_fault head_fault bytes_of
  start_is l =
      rw (
        head_is h row f,
        sheet_length h row,
        le-ltb (bodies_at h + sum_below (row_count h) (λ k. length (row k).body)) 16 (omega arith),
        le-ltb (bodies_at h + sum_below (row_count h) (λ k. length (row k).body)) (bodies_at h) (omega arith),
      )

  row_is : (k : ℕ) → k < row_count h → row_fault (sheet_of h row) k ≡ offered_fault (list_at h k) (row k)
  unfolding row_fault offered_fault
  row_is k l =
      let part = sum_part (row_count h) (λ i. length (row i).body) k l in
      rw (
        head_is h row f,
        kind_is h row f k l,
        length_is h row f k l,
        body_is h row f k l,
        offset_is h row f k (omega arith),
        sheet_length h row,
        le-ltb (bodies_at h + sum_below (row_count h) (λ i. length (row i).body)) (bodies_at h + sum_below k (λ i. length (row i).body) + length (row k).body) (omega arith),
      )

  end_is : end_fault (sheet_of h row) ≡ no_fault
  unfolding end_fault
  end_is =
      rw (
        head_is h row f,
        offset_is h row f (row_count h) (omega arith),
        sheet_length h row,
        le-ltb (bodies_at h + sum_below (row_count h) (λ i. length (row i).body)) (bodies_at h + sum_below (row_count h) (λ i. length (row i).body)) (omega arith),
      )

  pub read_is : (l : Limits) → read_refusal l (sheet_of h row) ≡ offered_refusal l h row
  unfolding read_refusal rows_refusal offered_refusal
  read_is l =
      rw (
        start_is l,
        end_is,
        head_is h row f,
        faults_same 0 (row_count h) (row_fault (sheet_of h row)) (λ k. offered_fault (list_at h k) (row k)) row_is,
        else_nothing 0 (row_count h) (λ k. offered_fault (list_at h k) (row k)),
      )

  list_is : {H : Type 0} (decode : ℕ → List ℕ → H) (first count : ℕ) → first + count ≤ row_count h
      → SameRows (headers_of decode (sheet_of h row) first count) (decoded decode row first count)
  list_is decode first count inside =
      record { count = refl; row = λ i l. rw (kind_is h row f (first + i) (omega arith), body_is h row f (first + i) (omega arith)) }

  pub headers_are : SameHeaders (sheet_headers (sheet_of h row)) (row_headers h row)
  unfolding sheet_headers row_headers
  headers_are =
      rw (head_is h row f) (record {
        arch = refl;
        platforms = list_is platform_of 0 h.platforms (omega arith);
        initializations = list_is initialization_of h.platforms h.initializations (omega arith);
        directives = list_is directive_of (h.platforms + h.initializations) h.directives (omega arith);
      })

  -- THE LAW: the verdict on the sheet is the verdict on head and rows
  pub verdict_is : (l : Limits) → verdict_refusal l (sheet_of h row) ≡ rows_verdict l h row
  unfolding verdict_refusal sheet_refusal rows_verdict
  verdict_is l = rw (read_is l, head_is h row f, same_refusal headers_are)

  -- it is readable exactly where head and rows are fine
  pub record Fine (l : Limits) : Type 0 where
    pub layout : layout_ok h ≡ true
    pub within : within_limits l h (bytes_of h row) ≡ true
    pub rows : (k : ℕ) → k < row_count h → is_fault (offered_fault (list_at h k) (row k)) ≡ false

  pub readable_is : (l : Limits) → Readable l (sheet_of h row) ↔ Fine l
  unfolding offered_refusal head_fault
  readable_is l = (
    λ ok.
        let (a, b) = (else_none (in_row 0 (head_fault l h (bytes_of h row))) _).0 (rw (read_is l) at ok) in
        let (c2, r) = (refuse_none (not (layout_ok h)) 1 0 _).0 (sym (row_refusal_lem 0 (head_fault l h (bytes_of h row))) ∙ a) in
        let (c3, _) = (refuse_none (not (within_limits l h (bytes_of h row))) 2 0 no_fault).0 r in
        record {
          layout = not-false (layout_ok h) c2;
          within = not-false (within_limits l h (bytes_of h row)) c3;
          rows = (rows_none 0 (row_count h) (λ k. offered_fault (list_at h k) (row k))).0 b;
        },
    λ s.
        let a : is_fault (head_fault l h (bytes_of h row)) ≡ false = rw (s.layout, s.within) no_fault_lem in
        rw (read_is l) ((else_none (in_row 0 (head_fault l h (bytes_of h row))) (first_fault 0 (row_count h) (λ k. offered_fault (list_at h k) (row k)))).1 (
          row_refusal_lem 0 (head_fault l h (bytes_of h row)) ∙ a,
          (rows_none 0 (row_count h) (λ k. offered_fault (list_at h k) (row k))).1 s.rows,
        )),
  )

  -- over a limit: 3
  pub over_limit_lem : (l : Limits) → layout_ok h ≡ true → within_limits l h (bytes_of h row) ≡ false → verdict_refusal l (sheet_of h row) ≡ refusal 3 0 0
  unfolding rows_verdict offered_refusal head_fault in_row or_else is_fault is_refusal
  over_limit_lem l o w = verdict_is l ∙ rw (o, w)
