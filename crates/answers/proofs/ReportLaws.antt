-- The report on a byte string, beside the verdict: what refuses it, what it answers, and what stands in the lent bytes afterwards.
use Rattle.rows.{proofs.Kit.{◌≡◌, refl, sym, ap, ◌∙◌, Bool, true, false, cond, ◌≢◌, ◌↔◌, List, length, get_or, ℕ, ◌+◌, ◌*◌, ◌/◌, ◌≤◌, ◌<◌, zero-add, arith, ltb, lt-ltb, le-ltb, ltb-false}, specs.Below.{sum_below, count_below}, proofs.Bools.is_false, proofs.BelowLaws.count_zero}
use Rattle.igvm_defs.{specs.Refusals.{refusal, no_refusal, no_fault, is_fault, is_refusal, in_row, or_else, first_fault}, proofs.RefusalLaws.{no_fault_lem, no_fault_row, row_refusal_lem, or_else_first, or_else_later, fault_zero}}
use Rattle.le.specs.Le.{le_at}
use Rattle.lent.{specs.Lent.words_put, proofs.LentLaws.{words_none, words_length, words_keep, put_word_is}}
use Rattle.sheet.{specs.Head.{Limits, head_of, row_count}, specs.Read.sheet_refusal}
use Rattle.sheet_headers.specs.Headers.{sheet_headers}
use Rattle.rules.{specs.declared.Region.Region, specs.Verdict.{no_platform, no_matching_vp_context, headers_refusal}, specs.Report.{kept_headers, rows_of, report_fault, report_word, faulty_rows, report_no_platform, report_no_context}, proofs.FaultLaws.{refuse_none, else_none}, proofs.ReportLaws.{verdict_is, first_word as first-fault, accepted_is as accepted_headers}, proofs.ToldLaws.{no_platform_told, Lacking, no_context_told, no_platform_row, zero_words as zero-words-verdict}, proofs.NumberLaws.word_most}
use Rattle.answers.specs.{declared.Report.Report, Verdict.verdict_refusal, Report.{row_words_fault, report_refusal, report_of, report_after}}

-- ---- what refuses the report

module _ (l : Limits) (s : List ℕ) where
  -- 1 TO 7 REFUSE THE REPORT AND THE VERDICT ALIKE: number, row and detail
  pub report_stops : (bytes : ℕ) → is_refusal (sheet_refusal l s) ≡ true → (report_refusal l s bytes ≡ sheet_refusal l s) × (verdict_refusal l s ≡ sheet_refusal l s)
  unfolding report_refusal verdict_refusal
  report_stops bytes t = (or_else_first (sheet_refusal l s) _ t, or_else_first (sheet_refusal l s) _ t)

  -- the report is not refused exactly when 1 to 7 don't refuse, and a whole word is lent for each row
  pub report_given : (bytes : ℕ) → (is_refusal (report_refusal l s bytes) ≡ false) ↔ ((is_refusal (sheet_refusal l s) ≡ false) × (row_count (head_of s) ≤ bytes / 8))
  unfolding report_refusal row_words_fault
  report_given bytes = (
    λ e.
        let (p, w) = (else_none (sheet_refusal l s) _).0 e in
        let (t, _) = (refuse_none (ltb (bytes / 8) (row_count (head_of s))) 36 0 no_fault).0 (sym (row_refusal_lem 0 (row_words_fault (row_count (head_of s)) bytes)) ∙ w) in
        (p, ltb-false (bytes / 8) (row_count (head_of s)) t),
    λ (p, h).
        let w : is_fault (row_words_fault (row_count (head_of s)) bytes) ≡ false = rw (le-ltb (bytes / 8) (row_count (head_of s)) h) no_fault_lem in
        (else_none (sheet_refusal l s) _).1 (p, row_refusal_lem 0 (row_words_fault (row_count (head_of s)) bytes) ∙ w),
  )

  -- where it is not, it has no row and no detail
  pub report_none : (bytes : ℕ) → is_refusal (report_refusal l s bytes) ≡ false → report_refusal l s bytes ≡ no_refusal
  unfolding report_refusal
  report_none bytes e =
      let (p, w) = (else_none (sheet_refusal l s) _).0 e in
      or_else_later (sheet_refusal l s) _ p
      ∙ no_fault_row 0 (row_words_fault (row_count (head_of s)) bytes) (sym (row_refusal_lem 0 (row_words_fault (row_count (head_of s)) bytes)) ∙ w)

  -- any other refusal is 37, of the sheet as a whole
  pub report_37 : (bytes : ℕ) → is_refusal (sheet_refusal l s) ≡ false → bytes / 8 < row_count (head_of s) → report_refusal l s bytes ≡ refusal 37 0 0
  unfolding report_refusal row_words_fault in_row is_fault
  report_37 bytes p h = or_else_later (sheet_refusal l s) _ p ∙ rw (lt-ltb (bytes / 8) (row_count (head_of s)) h)

-- ---- the verdict, of a sheet that 1 to 7 don't refuse

-- a word is reported for each row of the sheet
pub sheet_rows_lem : (s : List ℕ) → rows_of (sheet_headers s) ≡ row_count (head_of s)
unfolding sheet_headers
sheet_rows_lem s = refl

sheet_platforms : (s : List ℕ) → (sheet_headers s).platforms.count ≡ (head_of s).platforms
unfolding sheet_headers
sheet_platforms s = refl

module _ (l : Limits) (s : List ℕ) where
  headers_refusal_lem : is_refusal (sheet_refusal l s) ≡ false → verdict_refusal l s ≡ headers_refusal (sheet_headers s)
  unfolding verdict_refusal
  headers_refusal_lem p = or_else_later (sheet_refusal l s) _ p

  -- THE VERDICT IS 15 WHERE THERE IS NO PLATFORM ROW, ELSE THE FIRST NONZERO WORD, WITH ITS ROW AND DETAIL, ELSE 34
  pub verdict_told : is_refusal (sheet_refusal l s) ≡ false
      → verdict_refusal l s
      ≡ or_else (in_row 0 (no_platform (sheet_headers s)))
      (or_else (first_fault 0 (row_count (head_of s)) (report_fault (sheet_headers s))) (in_row 0 (no_matching_vp_context (kept_headers (sheet_headers s)))))
  verdict_told p = headers_refusal_lem p ∙ rw sheet_rows_lem at (verdict_is (sheet_headers s))

  -- so with a platform row the first word that is not 0 is the verdict's number, and its place the verdict's row
  pub first_word : (k : ℕ) → is_refusal (sheet_refusal l s) ≡ false → 0 < (head_of s).platforms → k < row_count (head_of s)
      → ((j : ℕ) → j < k → report_word (sheet_headers s) j ≡ 0) → report_word (sheet_headers s) k ≢ 0
      → verdict_refusal l s ≡ refusal (report_word (sheet_headers s) k) (k + 1) (report_fault (sheet_headers s) k).detail
  first_word k p some_platform below zeroes here =
      headers_refusal_lem p ∙ first-fault (sheet_headers s) k (rw (sheet_platforms s) some_platform) (rw (sheet_rows_lem s) below) zeroes here

  -- without a platform row the verdict is 15, whatever the words are
  pub no_platform_verdict : is_refusal (sheet_refusal l s) ≡ false → (head_of s).platforms ≡ 0 → verdict_refusal l s ≡ refusal 15 0 0
  no_platform_verdict p e = headers_refusal_lem p ∙ no_platform_row (sheet_headers s) (sheet_platforms s ∙ e)

  -- and where every word is 0 it is 15 where that is told, else 34 where that is told, else nothing
  pub zero_words : is_refusal (sheet_refusal l s) ≡ false → ((k : ℕ) → k < row_count (head_of s) → report_word (sheet_headers s) k ≡ 0)
      → verdict_refusal l s ≡ cond (report_no_platform (sheet_headers s)) (refusal 15 0 0) (cond (report_no_context (sheet_headers s)) (refusal 34 0 0) no_refusal)
  zero_words p z = headers_refusal_lem p ∙ zero-words-verdict (sheet_headers s) (λ k below. z k (rw (sheet_rows_lem s) at below))

  -- ACCEPTED EXACTLY WHEN 1 TO 7 DON'T REFUSE, EVERY WORD IS 0, AND NEITHER 15 NOR 34 IS TOLD
  pub accepted_is : (is_refusal (verdict_refusal l s) ≡ false)
      ↔ ((is_refusal (sheet_refusal l s) ≡ false) × ((k : ℕ) → k < row_count (head_of s) → report_word (sheet_headers s) k ≡ 0)
      × (report_no_platform (sheet_headers s) ≡ false) × (report_no_context (sheet_headers s) ≡ false))
  unfolding verdict_refusal
  accepted_is = (
    λ e.
        let (p, h) = (else_none (sheet_refusal l s) _).0 e in
        let (z, n, c) = (accepted_headers (sheet_headers s)).0 h in
        (p, λ k below. z k (rw (sheet_rows_lem s) below), n, c),
    λ (p, z, n, c).
        (else_none (sheet_refusal l s) _).1 (p, (accepted_headers (sheet_headers s)).1 (λ k below. z k (rw (sheet_rows_lem s) at below), n, c)),
  )

-- ---- the answer

module _ (l : Limits) (s : List ℕ) (bytes : ℕ) where
  -- REFUSED: every other number is 0
  pub refused_answer : is_refusal (report_refusal l s bytes) ≡ true
      → report_of l s bytes ≡ record { refusal = report_refusal l s bytes; no_platform = false; no_context = false; rows = 0; faulty = 0 }
  unfolding report_of
  refused_answer t = rw t

  -- NOT REFUSED: number, row and detail are 0, and the other numbers are what the headers' report tells
  pub given_answer : is_refusal (report_refusal l s bytes) ≡ false
      → report_of l s bytes
      ≡ record {
        refusal = no_refusal;
        no_platform = report_no_platform (sheet_headers s);
        no_context = report_no_context (sheet_headers s);
        rows = row_count (head_of s);
        faulty = faulty_rows (sheet_headers s);
      }
  unfolding report_of
  given_answer e = rw (e, report_none l s bytes e)

  -- 15 is told exactly when no platform row has word 0
  pub answer_15 : is_refusal (report_refusal l s bytes) ≡ false
      → ((report_of l s bytes).no_platform ≡ true) ↔ ((k : ℕ) → k < (head_of s).platforms → report_word (sheet_headers s) k ≢ 0)
  answer_15 e = (
    λ t k below. (no_platform_told (sheet_headers s)).0 (sym told ∙ t) k (rw (sheet_platforms s) below),
    λ h. told ∙ (no_platform_told (sheet_headers s)).1 (λ k below. h k (rw (sheet_platforms s) at below)),
  )
    where
      told : (report_of l s bytes).no_platform ≡ report_no_platform (sheet_headers s)
      told = ap (λ (r : Report). r.no_platform) (given_answer e)

  -- 34 is told exactly when some region whose word is 0 lacks its VP context
  pub answer_34 : is_refusal (report_refusal l s bytes) ≡ false
      → ((report_of l s bytes).no_context ≡ true) ↔ ((i : ℕ) × (r : Region) × Lacking (sheet_headers s) i r)
  answer_34 e = (λ t. (no_context_told (sheet_headers s)).0 (sym told ∙ t), λ h. told ∙ (no_context_told (sheet_headers s)).1 h)
    where
      told : (report_of l s bytes).no_context ≡ report_no_context (sheet_headers s)
      told = ap (λ (r : Report). r.no_context) (given_answer e)

  -- no row is faulty exactly when every word is 0
  pub no_faulty_row : is_refusal (report_refusal l s bytes) ≡ false
      → ((report_of l s bytes).faulty ≡ 0) ↔ ((k : ℕ) → k < row_count (head_of s) → report_word (sheet_headers s) k ≡ 0)
  unfolding report_of faulty_rows
  no_faulty_row e = rw e (
    λ z k below. (fault_zero (report_fault (sheet_headers s) k)).0 (zeroes.0 z k (rw (sheet_rows_lem s) below)),
    λ z. zeroes.1 (λ k below. (fault_zero (report_fault (sheet_headers s) k)).1 (z k (rw (sheet_rows_lem s) at below))),
  )
    where
      zeroes : (count_below (rows_of (sheet_headers s)) (λ k. is_fault (report_fault (sheet_headers s) k)) ≡ 0)
          ↔ ((k : ℕ) → k < rows_of (sheet_headers s) → is_fault (report_fault (sheet_headers s) k) ≡ false)
      zeroes = count_zero (rows_of (sheet_headers s)) (λ k. is_fault (report_fault (sheet_headers s) k))

  -- a sheet without rows needs no byte, and 15 is told
  pub no_rows : is_refusal (sheet_refusal l s) ≡ false → row_count (head_of s) ≡ 0
      → report_of l s bytes ≡ record { refusal = no_refusal; no_platform = true; no_context = false; rows = 0; faulty = 0 }
  unfolding sheet_headers faulty_rows sum_below
  no_rows p e =
      let given = (report_given l s bytes).1 (p, omega arith) in
      given_answer given
      ∙ rw (
        e,
        (no_platform_told (sheet_headers s)).1 (λ i below. absurd (omega arith)),
        is_false (report_no_context (sheet_headers s)) (λ t. let (i, r, L) = (no_context_told (sheet_headers s)).0 t in let b = L.below in omega arith),
      )

  -- THE VERDICT ACCEPTS EXACTLY WHEN THE REPORT'S ANSWER HAS NO FAULTY ROW AND TELLS NEITHER 15 NOR 34
  pub accepted_answer : is_refusal (report_refusal l s bytes) ≡ false
      → (is_refusal (verdict_refusal l s) ≡ false)
      ↔ (((report_of l s bytes).faulty ≡ 0) × ((report_of l s bytes).no_platform ≡ false) × ((report_of l s bytes).no_context ≡ false))
  accepted_answer e = (
    λ v. let (_, z, n, c) = (accepted_is l s).0 v in ((no_faulty_row e).1 z, told_15 ∙ n, told_34 ∙ c),
    λ (z, n, c). (accepted_is l s).1 (((report_given l s bytes).0 e).0, (no_faulty_row e).0 z, sym told_15 ∙ n, sym told_34 ∙ c),
  )
    where
      told_15 : (report_of l s bytes).no_platform ≡ report_no_platform (sheet_headers s)
      told_15 = ap (λ (r : Report). r.no_platform) (given_answer e)

      told_34 : (report_of l s bytes).no_context ≡ report_no_context (sheet_headers s)
      told_34 = ap (λ (r : Report). r.no_context) (given_answer e)

-- ---- the lent bytes

module _ (l : Limits) (s b : List ℕ) where
  -- as many bytes as were lent
  pub after_length : length (report_after l s b) ≡ length b
  unfolding report_after
  after_length = words_length 0 _ _ b

  -- REFUSED: nothing lent changes
  pub refused_bytes : is_refusal (report_refusal l s (length b)) ≡ true → report_after l s b ≡ b
  unfolding report_after report_of
  refused_bytes t = rw t (words_none 0 (report_word (sheet_headers s)) b)

  -- NOT REFUSED: word k is row k's
  pub word_there : is_refusal (report_refusal l s (length b)) ≡ false → (k : ℕ) → k < row_count (head_of s)
      → le_at 8 (report_after l s b) (8 * k) ≡ report_word (sheet_headers s) k
  unfolding report_after report_of
  word_there e k below =
      let (_, room) = (report_given l s (length b)).0 e in
      let most = word_most (sheet_headers s) k in
      rw e
      (rw zero-add at (put_word_is 0 (row_count (head_of s)) k (report_word (sheet_headers s)) b (rw zero-add (omega arith)) below (rw zero-add (omega arith))))

  -- bytes behind the last row's word keep their contents, refused or not
  pub bytes_behind : (j : ℕ) → 8 * row_count (head_of s) ≤ j → get_or (report_after l s b) j 0 ≡ get_or b j 0
  unfolding report_after report_of
  bytes_behind j h = go (is_refusal (report_refusal l s (length b)))
    where
      go : (t : Bool) → get_or (words_put 0 (cond t 0 (row_count (head_of s))) (report_word (sheet_headers s)) b) j 0 ≡ get_or b j 0
      go true = words_keep 0 0 (report_word (sheet_headers s)) b j (omega arith)
      go false = words_keep 0 (row_count (head_of s)) (report_word (sheet_headers s)) b j (rw zero-add h)

  -- so with a platform row the first lent word that is not 0 is the verdict's number, and its place the verdict's row
  pub first_lent_word : (k : ℕ) → is_refusal (report_refusal l s (length b)) ≡ false → 0 < (head_of s).platforms → k < row_count (head_of s)
      → ((j : ℕ) → j < k → le_at 8 (report_after l s b) (8 * j) ≡ 0) → le_at 8 (report_after l s b) (8 * k) ≢ 0
      → verdict_refusal l s ≡ refusal (le_at 8 (report_after l s b) (8 * k)) (k + 1) (report_fault (sheet_headers s) k).detail
  first_lent_word k e some_platform below zeroes here =
      let w = word_there e k below in
      rw w
      (first_word l s k ((report_given l s (length b)).0 e).0 some_platform below (λ j h. sym (word_there e j (omega arith)) ∙ zeroes j h) (λ z. here (w ∙ z)))
