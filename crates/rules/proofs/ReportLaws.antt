-- The report and the verdict: the verdict is the first thing that the report tells, and a file is accepted exactly when the report tells nothing.
use Rattle.rows.{proofs.Kit.{◌≡◌, sym, ap, ap₂, ◌∙◌, Bool, true, false, cond, ◌||◌, ◌≢◌, ◌↔◌, ℕ, ◌+◌, ◌-◌, ◌<◌, zero-add, arith, ne_eqb, lt-ltb, le-ltb}, specs.Below.any_below, specs.Rows.{Rows, before}, specs.Same.SameRows, proofs.Bools.{or_false_parts, or_both_false}, proofs.BelowLaws.{none_any, some_below, sum_split, count_same_tests}, proofs.SameLaws.rows_refl}
use Rattle.igvm_defs.{specs.declared.Arch.Arch, specs.declared.Refusal.Refusal, specs.Refusals.{refusal, no_refusal, is_fault, is_refusal, in_row, or_else, first_fault}, proofs.RefusalLaws.{no_fault_lem, row_refusal_lem, else_refusal, or_else_first, or_else_later, fault_stop, fault_end, faults_any, faults_same, faults_split, fault_zero, fault_number, fault_row, none_else, else_assoc, else_same, else_swap}}
use Rattle.platform_header.specs.declared.IgvmPlatformHeader.{IgvmPlatformHeader}
use Rattle.initialization_header.specs.declared.IgvmInitializationHeader.{IgvmInitializationHeader}
use Rattle.rules.specs.{Headers.Headers, Platforms.platform_fault, Initializations.initialization_fault, Directives.directive_fault, Verdict.{platform_faults, initialization_faults, directive_faults, no_platform, no_matching_vp_context, platforms_refusal, initializations_refusal, directives_refusal, headers_refusal}, Accepted.NotRefused, Report.{platform_report, kept_platforms, faulty_platforms, initialization_report, kept_initializations, faulty_initializations, directive_report, kept_directives, faulty_directives, kept_headers, rows_of, report_fault, report_word, faulty_rows, report_no_platform, report_no_context}}
use Rattle.rules.proofs.{SameRules.{platform_same, initialization_same, directive_same, no_platform_same, no_context_same}, KeptLaws.{Steady, kept_all, kept_sound, first_fault_same}}

-- ---- the rules look at the earlier rows alone

pub steady_platforms : (arch : Arch) → Steady (platform_fault arch)
steady_platforms arch xs ys h S = platform_same arch h S

pub steady_initializations : (arch : Arch) (ps : Rows IgvmPlatformHeader) → Steady (initialization_fault arch ps)
steady_initializations arch ps xs ys h S = initialization_same arch h (rows_refl _) S

pub steady_directives : (arch : Arch) (is : Rows IgvmInitializationHeader) → Steady (directive_fault arch is)
steady_directives arch is xs ys h S = directive_same arch h (rows_refl _) S

-- ---- the report's faults, list by list

module _ (f : Headers) where
  pub platform_word : (i : ℕ) → i < f.platforms.count → report_fault f i ≡ platform_report f i
  unfolding report_fault
  platform_word i l = rw (lt-ltb i f.platforms.count l)

  pub initialization_word : (i : ℕ) → i < f.initializations.count → report_fault f (f.platforms.count + i) ≡ initialization_report f i
  unfolding report_fault
  initialization_word i l =
      let e : f.platforms.count + i - f.platforms.count ≡ i = omega arith in
      rw (
        le-ltb (f.platforms.count + i) f.platforms.count (omega arith),
        lt-ltb (f.platforms.count + i) (f.platforms.count + f.initializations.count) (omega arith),
        e,
      )

  pub directive_word : (i : ℕ) → i < f.directives.count → report_fault f (f.platforms.count + f.initializations.count + i) ≡ directive_report f i
  unfolding report_fault
  directive_word i l =
      let e : f.platforms.count + f.initializations.count + i - (f.platforms.count + f.initializations.count) ≡ i = omega arith in
      rw (
        le-ltb (f.platforms.count + f.initializations.count + i) f.platforms.count (omega arith),
        le-ltb (f.platforms.count + f.initializations.count + i) (f.platforms.count + f.initializations.count) (omega arith),
        e,
      )

  -- as many rows are faulty as in the three lists together
  pub faulty_lists : faulty_rows f ≡ faulty_platforms f + faulty_initializations f + faulty_directives f
  unfolding faulty_rows
  faulty_lists =
      sum_split (f.platforms.count + f.initializations.count) f.directives.count (λ k. cond (is_fault (report_fault f k)) 1 0)
      ∙ ap₂ (λ (a b : ℕ). a + b)
      (sum_split f.platforms.count f.initializations.count (λ k. cond (is_fault (report_fault f k)) 1 0)
      ∙ ap₂ (λ (a b : ℕ). a + b)
      (count_same_tests f.platforms.count _ (λ i. is_fault (platform_report f i)) (λ i l. ap is_fault (platform_word i l)))
      (count_same_tests f.initializations.count _ (λ i. is_fault (initialization_report f i)) (λ i l. ap is_fault (initialization_word i l))))
      (count_same_tests f.directives.count _ (λ i. is_fault (directive_report f i)) (λ i l. ap is_fault (directive_word i l)))

  -- the first fault that the report tells of each list
  abbrev pub first_platform : Refusal
  first_platform = first_fault 0 f.platforms.count (platform_report f)

  abbrev pub first_initialization : Refusal
  first_initialization = first_fault f.platforms.count f.initializations.count (initialization_report f)

  abbrev pub first_directive : Refusal
  first_directive = first_fault (f.platforms.count + f.initializations.count) f.directives.count (directive_report f)

  pub report_lists : first_fault 0 (rows_of f) (report_fault f) ≡ or_else first_platform (or_else first_initialization first_directive)
  report_lists =
      faults_split 0 (f.platforms.count + f.initializations.count) f.directives.count (report_fault f)
      ∙ rw (
        faults_split 0 f.platforms.count f.initializations.count (report_fault f),
        faults_same 0 f.platforms.count (report_fault f) (platform_report f) platform_word,
        zero-add f.platforms.count,
        zero-add (f.platforms.count + f.initializations.count),
        faults_same f.platforms.count f.initializations.count (λ i. report_fault f (f.platforms.count + i)) (initialization_report f) initialization_word,
        faults_same (f.platforms.count + f.initializations.count) f.directives.count
            (λ i. report_fault f (f.platforms.count + f.initializations.count + i)) (directive_report f) directive_word,
      )
      (else_assoc first_platform first_initialization first_directive)

-- ---- the verdict

module _ (f : Headers) where
  -- a list without a fault is kept whole
  all_platforms : is_refusal (first_platform f) ≡ false → SameRows (kept_platforms f) f.platforms
  all_platforms e =
      kept_all (platform_fault f.arch) f.platforms (steady_platforms f.arch) f.platforms.count
      ((none_any f.platforms.count (λ i. is_fault (platform_report f i))).0 (sym (faults_any 0 f.platforms.count (platform_report f)) ∙ e))

  all_initializations : is_refusal (first_initialization f) ≡ false → SameRows (kept_initializations f) f.initializations
  all_initializations e =
      kept_all (initialization_fault f.arch (kept_platforms f)) f.initializations (steady_initializations f.arch (kept_platforms f)) f.initializations.count
      ((none_any f.initializations.count (λ i. is_fault (initialization_report f i))).0
      (sym (faults_any f.platforms.count f.initializations.count (initialization_report f)) ∙ e))

  all_directives : is_refusal (first_directive f) ≡ false → SameRows (kept_directives f) f.directives
  all_directives e =
      kept_all (directive_fault f.arch (kept_initializations f)) f.directives (steady_directives f.arch (kept_initializations f)) f.directives.count
      ((none_any f.directives.count (λ i. is_fault (directive_report f i))).0
      (sym (faults_any (f.platforms.count + f.initializations.count) f.directives.count (directive_report f)) ∙ e))

  same_platforms : first_platform f ≡ first_fault 0 f.platforms.count (platform_faults f)
  same_platforms = first_fault_same (platform_fault f.arch) f.platforms (steady_platforms f.arch) 0 f.platforms.count

  same_initializations : SameRows (kept_platforms f) f.platforms
      → first_initialization f ≡ first_fault f.platforms.count f.initializations.count (initialization_faults f)
  same_initializations S =
      first_fault_same (initialization_fault f.arch (kept_platforms f)) f.initializations (steady_initializations f.arch (kept_platforms f))
      f.platforms.count f.initializations.count
      ∙ faults_same f.platforms.count f.initializations.count _ (initialization_faults f)
      (λ i l. initialization_same f.arch (f.initializations.row i) S (rows_refl (before i f.initializations)))

  same_directives : SameRows (kept_initializations f) f.initializations
      → first_directive f ≡ first_fault (f.platforms.count + f.initializations.count) f.directives.count (directive_faults f)
  same_directives S =
      first_fault_same (directive_fault f.arch (kept_initializations f)) f.directives (steady_directives f.arch (kept_initializations f))
      (f.platforms.count + f.initializations.count) f.directives.count
      ∙ faults_same (f.platforms.count + f.initializations.count) f.directives.count _ (directive_faults f)
      (λ i l. directive_same f.arch (f.directives.row i) S (rows_refl (before i f.directives)))

  -- where a platform has a fault there is a platform row
  some_platform : 0 < f.platforms.count → is_fault (no_platform f) ≡ false
  unfolding no_platform
  some_platform l = rw (ne_eqb f.platforms.count 0 (λ z. omega arith)) no_fault_lem

  faulty_platform : is_refusal (first_platform f) ≡ true → is_refusal (in_row 0 (no_platform f)) ≡ false
  faulty_platform e =
      let (i, l, _) = some_below f.platforms.count (λ i. is_fault (platform_report f i)) (sym (faults_any 0 f.platforms.count (platform_report f)) ∙ e) in
      row_refusal_lem 0 (no_platform f) ∙ some_platform (omega arith)

  -- The verdict is 15 where there is no platform row, else the first fault that the report tells, with its row and detail, else 34.
  pub verdict_is : headers_refusal f ≡ or_else (in_row 0 (no_platform f)) (or_else (first_fault 0 (rows_of f) (report_fault f)) (in_row 0 (no_matching_vp_context (kept_headers f))))
  unfolding headers_refusal platforms_refusal initializations_refusal directives_refusal
  verdict_is =
      rw (report_lists f, ← same_platforms)
      (else_assoc FP N (or_else FI (or_else FD C))
      ∙ else_swap FP N (or_else FI (or_else FD C)) faulty_platform
      ∙ ap (or_else N) (
      else_same FP (or_else FI (or_else FD C)) (or_else FI' (or_else FD' C')) (λ p.
      rw (← same_initializations (all_platforms p))
      (else_same FI' (or_else FD C) (or_else FD' C') (λ i.
      rw (← same_directives (all_initializations i))
      (else_same FD' C C' (λ d. ap (in_row 0) (sym (no_context_same (kept_headers f) f (all_initializations i) (all_directives d))))))))
      ∙ sym (else_assoc FP (or_else FI' FD') C' ∙ ap (or_else FP) (else_assoc FI' FD' C'))
      ))
    where
      FP : Refusal
      FP = first_platform f

      N : Refusal
      N = in_row 0 (no_platform f)

      FI : Refusal
      FI = first_fault f.platforms.count f.initializations.count (initialization_faults f)

      FI' : Refusal
      FI' = first_initialization f

      FD : Refusal
      FD = first_fault (f.platforms.count + f.initializations.count) f.directives.count (directive_faults f)

      FD' : Refusal
      FD' = first_directive f

      C : Refusal
      C = in_row 0 (no_matching_vp_context f)

      C' : Refusal
      C' = in_row 0 (no_matching_vp_context (kept_headers f))

  -- The first nonzero word is the verdict's number, and its row the verdict's, where there is a platform row.
  pub first_word : (k : ℕ) → 0 < f.platforms.count → k < rows_of f → ((j : ℕ) → j < k → report_word f j ≡ 0) → report_word f k ≢ 0
      → headers_refusal f ≡ refusal (report_word f k) (k + 1) (report_fault f k).detail
  first_word k l b zeroes here =
      let t = fault_number (report_fault f k) here in
      let s = fault_stop 0 (rows_of f) (report_fault f) k b
      ((none_any k (λ j. is_fault (report_fault f j))).1 (λ j g. (fault_zero (report_fault f j)).1 (zeroes j g))) t in
      verdict_is
      ∙ or_else_later (in_row 0 (no_platform f)) _ (row_refusal_lem 0 (no_platform f) ∙ some_platform l)
      ∙ ap (λ r. or_else r (in_row 0 (no_matching_vp_context (kept_headers f)))) s
      ∙ or_else_first (in_row (0 + k + 1) (report_fault f k)) _ (row_refusal_lem (0 + k + 1) (report_fault f k) ∙ t)
      ∙ fault_row (0 + k + 1) (report_fault f k) t
      ∙ rw (zero-add k)

  -- whether the verdict refuses, as an equation
  refused_is : is_refusal (headers_refusal f)
      ≡ (is_fault (no_platform f) || (any_below (rows_of f) (λ k. is_fault (report_fault f k)) || report_no_context f))
  refused_is =
      rw (
        verdict_is,
        else_refusal,
        else_refusal (first_fault 0 (rows_of f) (report_fault f)) (in_row 0 (no_matching_vp_context (kept_headers f))),
        row_refusal_lem 0 (no_platform f),
        row_refusal_lem 0 (no_matching_vp_context (kept_headers f)),
        faults_any 0 (rows_of f) (report_fault f),
      )

  -- where every word is 0, 15 over the kept rows is 15 over the rows
  same_15 : any_below (rows_of f) (λ k. is_fault (report_fault f k)) ≡ false → no_platform (kept_headers f) ≡ no_platform f
  same_15 e =
      no_platform_same (kept_headers f) f (all_platforms (or_false_parts (is_refusal (first_platform f)) (is_refusal (or_else (first_initialization f) (first_directive f)))
      (sym (else_refusal (first_platform f) (or_else (first_initialization f) (first_directive f)))
      ∙ ap is_refusal (sym (report_lists f))
      ∙ faults_any 0 (rows_of f) (report_fault f)
      ∙ e)).0)

  -- A file is accepted exactly when every word is 0 and neither 15 nor 34 is told.
  pub accepted_is : NotRefused f ↔ (((k : ℕ) → k < rows_of f → report_word f k ≡ 0) × (report_no_platform f ≡ false) × (report_no_context f ≡ false))
  accepted_is = (there, back)
    where
      faulty : ℕ → Bool
      faulty k = is_fault (report_fault f k)

      there : NotRefused f → ((k : ℕ) → k < rows_of f → report_word f k ≡ 0) × (report_no_platform f ≡ false) × (report_no_context f ≡ false)
      there e =
          let (p, r) = or_false_parts (is_fault (no_platform f)) _ (sym refused_is ∙ e) in
          let (w, c) = or_false_parts (any_below (rows_of f) faulty) (report_no_context f) r in
          (λ k l. (fault_zero (report_fault f k)).0 ((none_any (rows_of f) faulty).0 w k l), ap is_fault (same_15 w) ∙ p, c)

      back : ((k : ℕ) → k < rows_of f → report_word f k ≡ 0) × (report_no_platform f ≡ false) × (report_no_context f ≡ false) → NotRefused f
      back (z, p, c) =
          let w = (none_any (rows_of f) faulty).1 (λ k l. (fault_zero (report_fault f k)).1 (z k l)) in
          refused_is ∙ or_both_false (is_fault (no_platform f)) _ (ap is_fault (sym (same_15 w)) ∙ p) (or_both_false (any_below (rows_of f) faulty) _ w c)

  -- The file without the skipped rows meets 15, else 34, else nothing.
  pub kept_verdict : headers_refusal (kept_headers f) ≡ or_else (in_row 0 (no_platform (kept_headers f))) (in_row 0 (no_matching_vp_context (kept_headers f)))
  unfolding headers_refusal platforms_refusal initializations_refusal directives_refusal
  kept_verdict =
      rw (
        fault_end 0 g.platforms.count (platform_faults g) ((none_any g.platforms.count (λ i. is_fault (platform_faults g i))).1
            (kept_sound (platform_fault f.arch) f.platforms (steady_platforms f.arch) f.platforms.count)),
        fault_end g.platforms.count g.initializations.count (initialization_faults g)
            ((none_any g.initializations.count (λ i. is_fault (initialization_faults g i))).1
            (kept_sound (initialization_fault f.arch (kept_platforms f)) f.initializations (steady_initializations f.arch (kept_platforms f)) f.initializations.count)),
        fault_end (g.platforms.count + g.initializations.count) g.directives.count (directive_faults g)
            ((none_any g.directives.count (λ i. is_fault (directive_faults g i))).1
            (kept_sound (directive_fault f.arch (kept_initializations f)) f.directives (steady_directives f.arch (kept_initializations f)) f.directives.count)),
        none_else (in_row 0 (no_platform g)),
        none_else (or_else no_refusal (in_row 0 (no_matching_vp_context g))),
        none_else (in_row 0 (no_matching_vp_context g)),
      )
    where
      g : Headers
      g = kept_headers f
