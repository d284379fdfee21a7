-- When a report tells 15 and 34, by the words; and the verdict where it is not the first nonzero word.
use Rattle.rows.{proofs.Kit.{◌≡◌, refl, sym, ap, ◌∙◌, Bool, true, false, cond, not, ◌&&◌, and-false, or-false, ◌≢◌, ◌↔◌, ◌⊎◌, inl, inr, some, ℕ, zero, suc, ◌+◌, ◌<◌, arith, eqb, eqb-true, eqb-false, eq-eqb, ne_eqb, not-true}, specs.Below.any_below, specs.Rows.any, specs.Same.SameRows, proofs.Bools.{not_both, and_parts}, proofs.BelowLaws.{any_below_lem, some_below, none_any}, proofs.SameLaws.rows_sym}
use Rattle.igvm_defs.{specs.declared.Fault.Fault, specs.Refusals.{refusal, no_refusal, fault, no_fault, is_fault, is_refusal, in_row, or_else}, proofs.RefusalLaws.{no_fault_lem, refuse_fault, row_refusal_lem, or_else_first, fault_end, none_else, fault_zero, fault_number, fault_row}}
use Rattle.rules.specs.{declared.Region.Region, Headers.Headers, Regions.{region_of, region_passes}, Platforms.platform_fault, Initializations.initialization_fault, Directives.{directive_fault, is_context, no_context}, Verdict.{no_platform, no_matching_vp_context, headers_refusal}, Report.{platform_report, kept_platforms, initialization_report, kept_initializations, directive_report, kept_directives, kept_headers, rows_of, report_fault, report_word, report_no_platform, report_no_context}}
use Rattle.rules.proofs.{RegionLaws.region_passes_lem, SameRules.no_platform_same, KeptLaws.{kept_any, kept_all}, ReportLaws.{steady_platforms, platform_word, initialization_word, directive_word, verdict_is, kept_verdict}}

-- a test with no later test
test_alone : (b : Bool) (n : ℕ) → is_fault (cond b (fault (suc n) 0) no_fault) ≡ b
test_alone b n = refuse_fault b n 0 no_fault ∙ rw no_fault_lem (or-false b)

zero_word : (x y : Fault) → y ≡ x → (is_fault x ≡ false) ↔ (y.number ≡ 0)
zero_word x y e = rw e (fault_zero x)

-- ---- 15

module _ (f : Headers) where
  -- a platform row is kept exactly when its word is 0
  platform_kept : (i : ℕ) → i < f.platforms.count → (is_fault (platform_report f i) ≡ false) ↔ (report_word f i ≡ 0)
  platform_kept i l = zero_word (platform_report f i) (report_fault f i) (platform_word f i l)

  told_15 : report_no_platform f ≡ eqb (kept_platforms f).count 0
  unfolding no_platform
  told_15 = test_alone (eqb (kept_platforms f).count 0) 14

  any_platform : any (λ _. true) (kept_platforms f) ≡ any_below f.platforms.count (λ i. not (is_fault (platform_report f i)) && true)
  any_platform = kept_any (platform_fault f.arch) f.platforms (λ _. true) f.platforms.count

  -- 15 IS TOLD EXACTLY WHEN NO PLATFORM ROW HAS WORD 0
  pub no_platform_told : (report_no_platform f ≡ true) ↔ ((i : ℕ) → i < f.platforms.count → report_word f i ≢ 0)
  no_platform_told = (there, back)
    where
      kept_there : (i : ℕ) → i < f.platforms.count → report_word f i ≡ 0 → any (λ _. true) (kept_platforms f) ≡ true
      kept_there i l z = any_platform ∙ any_below_lem f.platforms.count _ i l (rw ((platform_kept i l).1 z))

      there : report_no_platform f ≡ true → (i : ℕ) → i < f.platforms.count → report_word f i ≢ 0
      there t i l z =
          let e = eqb-true (kept_platforms f).count 0 (sym told_15 ∙ t) in
          let (j, m, _) = some_below (kept_platforms f).count (λ _. true) (kept_there i l z) in
          omega arith

      back : ((i : ℕ) → i < f.platforms.count → report_word f i ≢ 0) → report_no_platform f ≡ true
      back h = told_15 ∙ eq-eqb (kept_platforms f).count 0 (none (kept_platforms f).count refl)
        where
          nothing : any (λ _. true) (kept_platforms f) ≡ false
          nothing = any_platform ∙ (none_any f.platforms.count _).1 (λ i l. rw (ap is_fault (sym (platform_word f i l)) ∙ fault_number (report_fault f i) (h i l)))

          none : (n : ℕ) → (kept_platforms f).count ≡ n → (kept_platforms f).count ≡ 0
          none zero e = e
          none (suc n) e = not_both nothing (any_below_lem (kept_platforms f).count (λ _. true) 0 (omega arith) refl)

-- ---- 34

-- no VBS context of the region's VTL whose word is 0 shares a bit with its mask
abbrev pub NoKeptContext : Headers → Region → Type 0
NoKeptContext f r =
    (j : ℕ) → j < f.directives.count → report_word f (f.platforms.count + f.initializations.count + j) ≡ 0
    → is_context r.vtl r.mask (f.directives.row j) ≡ false

-- row i of the initializations has a region of either kind, its word is 0, and its VP index is not 0 or it has no such context
pub record Lacking (f : Headers) (i : ℕ) (r : Region) : Type 0 where
  pub below : i < f.initializations.count
  pub kept : report_word f (f.platforms.count + i) ≡ 0
  pub region : region_of (f.initializations.row i) ≡ some r
  pub lacking : (r.vp_index ≢ 0) ⊎ NoKeptContext f r

module _ (f : Headers) where
  initialization_kept : (i : ℕ) → i < f.initializations.count → (is_fault (initialization_report f i) ≡ false) ↔ (report_word f (f.platforms.count + i) ≡ 0)
  initialization_kept i l = zero_word (initialization_report f i) (report_fault f (f.platforms.count + i)) (initialization_word f i l)

  directive_kept : (i : ℕ) → i < f.directives.count
      → (is_fault (directive_report f i) ≡ false) ↔ (report_word f (f.platforms.count + f.initializations.count + i) ≡ 0)
  directive_kept i l = zero_word (directive_report f i) (report_fault f (f.platforms.count + f.initializations.count + i)) (directive_word f i l)

  -- no kept context
  no_kept_context : (r : Region) → (any (is_context r.vtl r.mask) (kept_directives f) ≡ false)
      ↔ NoKeptContext f r
  no_kept_context r = (
    λ e j l z. let a = (none_any f.directives.count test).0 (sym says ∙ e) j l in rw ((directive_kept j l).1 z) at a,
    λ h. says ∙ (none_any f.directives.count test).1 (λ j l. at j l (is_fault (directive_report f j)) refl h),
  )
    where
      test : ℕ → Bool
      test j = not (is_fault (directive_report f j)) && is_context r.vtl r.mask (f.directives.row j)

      says : any (is_context r.vtl r.mask) (kept_directives f) ≡ any_below f.directives.count test
      says = kept_any (directive_fault f.arch (kept_initializations f)) f.directives (is_context r.vtl r.mask) f.directives.count

      at : (j : ℕ) → j < f.directives.count → (b : Bool) → is_fault (directive_report f j) ≡ b
          → NoKeptContext f r
          → (not b && is_context r.vtl r.mask (f.directives.row j)) ≡ false
      at j l true e h = refl
      at j l false e h = h j l ((directive_kept j l).0 e)

  -- a region lacks its context
  lacks : (r : Region) → (no_context (kept_directives f) r ≡ true)
      ↔ ((r.vp_index ≢ 0) ⊎ NoKeptContext f r)
  unfolding no_context
  lacks r = (λ t. there (eqb r.vp_index 0) refl t, back)
    where
      there : (b : Bool) → eqb r.vp_index 0 ≡ b → not (b && any (is_context r.vtl r.mask) (kept_directives f)) ≡ true
          → (r.vp_index ≢ 0) ⊎ NoKeptContext f r
      there true e t = inr ((no_kept_context r).0 (not-true (any (is_context r.vtl r.mask) (kept_directives f)) t))
      there false e t = inl (eqb-false r.vp_index 0 e)

      back : (r.vp_index ≢ 0) ⊎ NoKeptContext f r
          → no_context (kept_directives f) r ≡ true
      back (inl v) = rw (ne_eqb r.vp_index 0 v)
      back (inr h) = rw ((no_kept_context r).1 h, and-false (eqb r.vp_index 0))

  told_34 : report_no_context f
      ≡ any_below f.initializations.count (λ i. not (is_fault (initialization_report f i)) && region_passes (no_context (kept_directives f)) (f.initializations.row i))
  unfolding no_matching_vp_context
  told_34 =
      test_alone (any (region_passes (no_context (kept_directives f))) (kept_initializations f)) 33
      ∙ kept_any (initialization_fault f.arch (kept_platforms f)) f.initializations (region_passes (no_context (kept_directives f))) f.initializations.count

  -- 34 IS TOLD EXACTLY WHEN SOME REGION WHOSE WORD IS 0 LACKS ITS CONTEXT
  pub no_context_told : (report_no_context f ≡ true) ↔ ((i : ℕ) × (r : Region) × Lacking f i r)
  no_context_told = (
    λ t.
        let (i, l, h) = some_below f.initializations.count test (sym told_34 ∙ t) in
        let (a, p) = and_parts (not (is_fault (initialization_report f i))) (region_passes (no_context (kept_directives f)) (f.initializations.row i)) h in
        let (r, o, c) = (region_passes_lem (no_context (kept_directives f)) (f.initializations.row i)).0 p in
        (i, r, record { below = l; kept = (initialization_kept i l).0 (not-true (is_fault (initialization_report f i)) a); region = o; lacking = (lacks r).0 c }),
    λ (i, r, L).
        told_34 ∙ any_below_lem f.initializations.count test i L.below
        (rw ((initialization_kept i L.below).1 L.kept)
        ((region_passes_lem (no_context (kept_directives f)) (f.initializations.row i)).1 (r, L.region, (lacks r).1 L.lacking))),
  )
    where
      test : ℕ → Bool
      test i = not (is_fault (initialization_report f i)) && region_passes (no_context (kept_directives f)) (f.initializations.row i)

-- ---- the verdict where it is not the first nonzero word

module _ (f : Headers) where
  -- without a platform row the verdict is 15, whatever the words are
  pub no_platform_row : f.platforms.count ≡ 0 → headers_refusal f ≡ refusal 15 0 0
  unfolding no_platform
  no_platform_row e =
      verdict_is f
      ∙ or_else_first (in_row 0 (no_platform f)) _ (row_refusal_lem 0 (no_platform f) ∙ test)
      ∙ fault_row 0 (no_platform f) test
      ∙ rw (eq-eqb f.platforms.count 0 e)
    where
      test : is_fault (no_platform f) ≡ true
      test = test_alone (eqb f.platforms.count 0) 14 ∙ eq-eqb f.platforms.count 0 e

  -- 15, else 34, as they are told
  told_verdict : or_else (in_row 0 (no_platform (kept_headers f))) (in_row 0 (no_matching_vp_context (kept_headers f)))
      ≡ cond (report_no_platform f) (refusal 15 0 0) (cond (report_no_context f) (refusal 34 0 0) no_refusal)
  unfolding no_platform no_matching_vp_context or_else in_row is_refusal is_fault
  told_verdict = by_cases (eqb (kept_platforms f).count 0) (any (region_passes (no_context (kept_directives f))) (kept_initializations f))
    where
      by_cases : (b c : Bool) → or_else (in_row 0 (cond b (fault 15 0) no_fault)) (in_row 0 (cond c (fault 34 0) no_fault))
          ≡ cond (is_fault (cond b (fault 15 0) no_fault)) (refusal 15 0 0) (cond (is_fault (cond c (fault 34 0) no_fault)) (refusal 34 0 0) no_refusal)
      by_cases true c = refl
      by_cases false true = refl
      by_cases false false = refl

  -- where every word is 0 the verdict is 15 where that is told, else 34 where that is told, else nothing
  pub zero_words : ((k : ℕ) → k < rows_of f → report_word f k ≡ 0)
      → headers_refusal f ≡ cond (report_no_platform f) (refusal 15 0 0) (cond (report_no_context f) (refusal 34 0 0) no_refusal)
  zero_words z =
      verdict_is f
      ∙ rw (
        fault_end 0 (rows_of f) (report_fault f) ((none_any (rows_of f) (λ k. is_fault (report_fault f k))).1 (λ k l. (fault_zero (report_fault f k)).1 (z k l))),
        none_else (in_row 0 (no_matching_vp_context (kept_headers f))),
        no_platform_same f (kept_headers f) (rows_sym S),
      )
      told_verdict
    where
      S : SameRows (kept_platforms f) f.platforms
      S =
          kept_all (platform_fault f.arch) f.platforms (steady_platforms f.arch) f.platforms.count
          (λ i l. (platform_kept f i l).1 (z i (omega arith)))

  -- and so is the verdict on the file without the skipped rows
  pub kept_verdict_told : headers_refusal (kept_headers f) ≡ cond (report_no_platform f) (refusal 15 0 0) (cond (report_no_context f) (refusal 34 0 0) no_refusal)
  kept_verdict_told = kept_verdict f ∙ told_verdict
