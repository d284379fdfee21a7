-- Laws of the report call: what refuses it, what it answers where it is not refused, and an accepted sheet's answer.
use Rattle.rows.{proofs.Kit.{◌≡◌, refl, sym, ap, ◌∙◌, Bool, true, false, ◌&&◌, or-false, List, ℕ, ◌+◌, ◌*◌, ◌/◌, ◌≤◌, ◌<◌, zero-add, arith, dec_lt, eqb, ltb, eqb-true, ne_eqb, lt-ltb, ltb-true, length}, proofs.Bools.{not_both, and_parts, and_both}, proofs.BelowLaws.count_le}
use Rattle.igvm_defs.{specs.declared.Refusal.Refusal, specs.Refusals.{refusal, no_refusal, no_fault, is_fault, is_refusal}, proofs.RefusalLaws.{refuse_fault, no_fault_lem}}
use Rattle.lent.{specs.Lent.words_put, proofs.LentLaws.{words_join, words_same}}
use Rattle.sheet.{specs.Head.{limits, head_of, row_count, first_directive}, specs.Read.{Readable, sheet_refusal}, proofs.Readable.{readable_bounds}}
use Rattle.sheet_headers.{specs.Headers.sheet_headers, proofs.HeaderLaws.sheet_counts}
use Rattle.rules.{specs.Verdict.no_platform, specs.Report.{platform_report, kept_platforms, faulty_platforms, initialization_report, faulty_initializations, directive_report, faulty_directives, report_word, faulty_rows, report_no_platform, report_no_context}, proofs.ReportLaws.faulty_lists}
use Rattle.platform_check.{specs.declared.Platforms.Platforms, specs.Record.HoldsPlatforms}
use Rattle.answers.{specs.declared.Report.Report, specs.Verdict.{verdict_refusal, verdict_of}, specs.Numbers.{number_of, verdict_numbers}, specs.Report.{report_refusal, report_of, report_after}, proofs.ReportLaws.{report_stops, report_given, report_37, refused_answer, given_answer, refused_bytes, accepted_is, no_faulty_row}, proofs.NumberLaws.{verdict_reading, verdict_rules, verdict_accepts}}

-- the answer to a call that is refused
abbrev pub refused_report : Refusal → Report
refused_report r = record { refusal = r; no_platform = false; no_context = false; rows = 0; faulty = 0 }

module _ (s b : List ℕ) where
  -- ---- refused

  refused : (r : Refusal) → r ≡ report_refusal limits s (length b) → is_refusal r ≡ true → (refused_report r ≡ report_of limits s (length b)) × (b ≡ report_after limits s b)
  refused r e t = let u = rw e at t in (rw e (sym (refused_answer limits s (length b) u)), sym (refused_bytes limits s b u))

  -- by 1 to 7
  pub sheet_refused : (r : Refusal) → r ≡ sheet_refusal limits s → is_refusal r ≡ true → (refused_report r ≡ report_of limits s (length b)) × (b ≡ report_after limits s b)
  sheet_refused r e t = refused r (e ∙ sym (report_stops limits s (length b) (rw e at t)).0) t

  -- by 37
  pub words_refused : is_refusal (sheet_refusal limits s) ≡ false → length b / 8 < row_count (head_of s)
      → (refused_report (refusal 37 0 0) ≡ report_of limits s (length b)) × (b ≡ report_after limits s b)
  unfolding is_refusal
  words_refused p l = refused (refusal 37 0 0) (sym (report_37 limits s (length b) p l)) refl

  -- ---- not refused

  pub given : is_refusal (sheet_refusal limits s) ≡ false → row_count (head_of s) ≤ length b / 8 → is_refusal (report_refusal limits s (length b)) ≡ false
  given p l = (report_given limits s (length b)).1 (p, l)

  pub room : is_refusal (report_refusal limits s (length b)) ≡ false → 8 * row_count (head_of s) ≤ length b
  room e = let l = ((report_given limits s (length b)).0 e).1 in omega arith

  -- as many words as rows
  rows_put_lem : is_refusal (report_refusal limits s (length b)) ≡ false → words_put 0 (row_count (head_of s)) (report_word (sheet_headers s)) b ≡ report_after limits s b
  unfolding report_after
  rows_put_lem e = rw (given_answer limits s (length b) e)

  -- the words of the three lists, one behind the other
  pub lists_put : is_refusal (report_refusal limits s (length b)) ≡ false → (w1 w2 w3 : List ℕ) → w1 ≡ words_put 0 (head_of s).platforms (report_word (sheet_headers s)) b
      → w2 ≡ words_put (head_of s).platforms (head_of s).initializations (report_word (sheet_headers s)) w1
      → w3 ≡ words_put (first_directive s) (head_of s).directives (report_word (sheet_headers s)) w2 → w3 ≡ report_after limits s b
  lists_put e w1 w2 w3 p i d =
      let word : ℕ → ℕ = report_word (sheet_headers s) in
      let two : w2 ≡ words_put 0 ((head_of s).platforms + (head_of s).initializations) word b =
      i ∙ rw p (rw zero-add at (words_join 0 (head_of s).platforms (head_of s).initializations word b))
      in
      d ∙ rw two (rw zero-add at (words_join 0 ((head_of s).platforms + (head_of s).initializations) (head_of s).directives word b)) ∙ rows_put_lem e

  -- no more rows are faulty than there are
  pub few_faulty : Readable limits s
      → (faulty_platforms (sheet_headers s) ≤ 16) × (faulty_initializations (sheet_headers s) ≤ 64) × (faulty_directives (sheet_headers s) ≤ 8192)
  few_faulty ok =
      let b = readable_bounds s ok in let counts = sheet_counts s in
      let p = count_le (sheet_headers s).platforms.count (λ i. is_fault (platform_report (sheet_headers s) i)) in
      let i = count_le (sheet_headers s).initializations.count (λ i. is_fault (initialization_report (sheet_headers s) i)) in
      let d = count_le (sheet_headers s).directives.count (λ i. is_fault (directive_report (sheet_headers s) i)) in
      (omega arith, omega arith, omega arith)

  -- 15 over the kept platforms
  no_platform_told : (p : Platforms) → HoldsPlatforms p (kept_platforms (sheet_headers s)) → eqb p.count 0 ≡ report_no_platform (sheet_headers s)
  unfolding no_platform
  no_platform_told p h = rw h.count (sym (refuse_fault (eqb (kept_platforms (sheet_headers s)).count 0) 14 0 no_fault ∙ rw no_fault_lem (or-false _)))

  pub lists_told : is_refusal (report_refusal limits s (length b)) ≡ false → (p : Platforms) (n pf fi df : ℕ) (c : Bool) → HoldsPlatforms p (kept_platforms (sheet_headers s))
      → pf ≡ faulty_platforms (sheet_headers s) → fi ≡ faulty_initializations (sheet_headers s) → df ≡ faulty_directives (sheet_headers s) → c ≡ report_no_context (sheet_headers s)
      → n ≡ row_count (head_of s)
      → record { refusal = no_refusal; no_platform = eqb p.count 0; no_context = c; rows = n; faulty = pf + fi + df } ≡ report_of limits s (length b)
  lists_told e p n pf fi df c h a i d k m =
      rw (no_platform_told p h, a, i, d, k, m, ← faulty_lists (sheet_headers s)) (sym (given_answer limits s (length b) e))

  -- ---- accepted: no row is faulty, and neither 15 nor 34 is told

  pub accepted : is_refusal (verdict_refusal limits s) ≡ false → (n : ℕ) → n ≡ row_count (head_of s) → n ≤ length b / 8
      → (record { refusal = no_refusal; no_platform = false; no_context = false; rows = n; faulty = 0 } ≡ report_of limits s (length b))
      × (words_put 0 n (λ _. 0) b ≡ report_after limits s b)
  accepted v n m l =
      let (p, z, a, c) = (accepted_is limits s).0 v in
      let e = given p (rw m at l) in
      let answer = given_answer limits s (length b) e in
      let none : faulty_rows (sheet_headers s) ≡ 0 = sym (ap (λ (r : Report). r.faulty) answer) ∙ (no_faulty_row limits s (length b) e).1 z in (
        rw m (sym (answer ∙ rw (a, c, none))),
        rw m (words_same 0 (row_count (head_of s)) (λ _. 0) (report_word (sheet_headers s)) b (λ k _ h. sym (z k (rw zero-add at h))) ∙ rows_put_lem e),
      )

-- ---- by the verdict's number

pub number_told : (s : List ℕ) → number_of 0 (verdict_numbers (verdict_of limits s)) ≡ (verdict_refusal limits s).number
unfolding number_of verdict_of
number_told s = refl

pub row_told : (s : List ℕ) → number_of 1 (verdict_numbers (verdict_of limits s)) ≡ (verdict_refusal limits s).row
unfolding number_of verdict_of
row_told s = refl

pub detail_told : (s : List ℕ) → number_of 2 (verdict_numbers (verdict_of limits s)) ≡ (verdict_refusal limits s).detail
unfolding number_of verdict_of
detail_told s = refl

module _ (s : List ℕ) (number : ℕ) (e : number ≡ (verdict_refusal limits s).number) where
  -- 1 to 7: the sheet can't be read
  pub reading_refused : (b : List ℕ) (r : Refusal) → r ≡ verdict_refusal limits s → (ltb 0 number && ltb number 8) ≡ true
      → (refused_report r ≡ report_of limits s (length b)) × (b ≡ report_after limits s b)
  unfolding is_refusal
  reading_refused b r same t =
      let (some, few) = and_parts (ltb 0 number) (ltb number 8) t in
      let low = ltb-true 0 number some in
      let high = ltb-true number 8 few in
      let refuses : is_refusal (verdict_refusal limits s) ≡ true = rw (ne_eqb (verdict_refusal limits s).number 0 (λ z. omega arith)) in
      sheet_refused s b r (same ∙ (verdict_reading limits s refuses (omega arith)).1) (rw same refuses)

  -- else it can, and 0 says that it is accepted
  pub reading_passed : (ltb 0 number && ltb number 8) ≡ false
      → (is_refusal (sheet_refusal limits s) ≡ false) × (eqb number 0 ≡ true → is_refusal (verdict_refusal limits s) ≡ false)
  reading_passed t = (go (dec_lt number 8), λ z. (verdict_accepts limits s (sym e ∙ eqb-true number 0 z)).0)
    where
      go : Dec (number < 8) → is_refusal (sheet_refusal limits s) ≡ false
      go (no l) = verdict_rules limits s (omega arith)
      go (yes l) = none (dec_lt 0 number)
        where
          none : Dec (0 < number) → is_refusal (sheet_refusal limits s) ≡ false
          none (yes m) = not_both t (and_both (ltb 0 number) (ltb number 8) (lt-ltb 0 number m) (lt-ltb number 8 l))
          none (no m) = (verdict_accepts limits s (omega arith)).1
