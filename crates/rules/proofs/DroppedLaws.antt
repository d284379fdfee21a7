-- A row whose word is not 0 may be dropped from the file: every other row keeps its word and detail, the kept rows are the same, and 15 and 34 are told alike.
use Rattle.rows.{proofs.Kit.{◌≡◌, refl, sym, ap, ◌∙◌, Bool, true, false, cond, ◌≢◌, ◌⊎◌, inl, inr, ℕ, zero, suc, ◌+◌, ◌-◌, ◌≤◌, ◌<◌, not-suc-le-zero, add-one, arith, dec_lt, ltb, lt-ltb, le-ltb}, specs.Below.{sum_below, count_below}, specs.Rows.{Rows, more, without}, specs.Same.SameRows, proofs.BelowLaws.{top, count_same_tests}, proofs.SameLaws.{rows_refl, rows_trans, more_last, more_row}}
use Rattle.igvm_defs.{specs.declared.Arch.Arch, specs.declared.Fault.Fault, specs.Refusals.is_fault, proofs.RefusalLaws.{fault_zero, fault_number}}
use Rattle.platform_header.specs.declared.IgvmPlatformHeader.{IgvmPlatformHeader}
use Rattle.initialization_header.specs.declared.IgvmInitializationHeader.{IgvmInitializationHeader}
use Rattle.directive_header.specs.declared.IgvmDirectiveHeader.{IgvmDirectiveHeader}
use Rattle.rules.specs.{Headers.Headers, Platforms.platform_fault, Initializations.initialization_fault, Directives.directive_fault, Kept.{kept_below, fault_of, kept}, Report.{platform_report, kept_platforms, initialization_report, kept_initializations, directive_report, kept_directives, kept_headers, rows_of, report_fault, report_word, faulty_rows, report_no_platform, report_no_context}}
use Rattle.rules.proofs.{SameRules.{initialization_same, directive_same, no_platform_same, no_context_same}, KeptLaws.{Steady, kept_skipped, kept_taken, kept_all, fault_same, kept_sound, earlier_fault, later_fault, kept_without}, ReportLaws.{steady_platforms, steady_initializations, steady_directives, platform_word, initialization_word, directive_word}}

-- ---- two rules that say the same after lists with the same rows

module _ {H : Type 0} (r s : Rows H → H → Fault) (same : (xs ys : Rows H) (h : H) → SameRows xs ys → r xs h ≡ s ys h) (zs : Rows H) where
  -- they keep the same rows
  pub rules_kept : (n : ℕ) → SameRows (kept_below r zs n) (kept_below s zs n)
  unfolding kept_below
  rules_kept zero = rows_refl _
  rules_kept (suc n) = go (rules_kept n) (is_fault (fault_of s zs n)) refl
    where
      go : SameRows (kept_below r zs n) (kept_below s zs n) → (b : Bool) → is_fault (fault_of s zs n) ≡ b → SameRows (kept_below r zs (suc n)) (kept_below s zs (suc n))
      go S true t = rw (kept_skipped r zs n (ap is_fault (same _ _ (zs.row n) S) ∙ t), kept_skipped s zs n t) S
      go S false t =
          rw (kept_taken r zs n (ap is_fault (same _ _ (zs.row n) S) ∙ t), kept_taken s zs n t)
          (record { count = ap suc S.count; row = λ i l. at i (top l) })
        where
          at : (i : ℕ) → (i ≡ (kept_below r zs n).count) ⊎ (i < (kept_below r zs n).count)
              → (more (kept_below r zs n) (zs.row n)).row i ≡ (more (kept_below s zs n) (zs.row n)).row i
          at i (inl z) = rw (z, more_last (kept_below r zs n) (zs.row n), S.count) (sym (more_last (kept_below s zs n) (zs.row n)))
          at i (inr l) =
              more_row (kept_below r zs n) (zs.row n) i l ∙ S.row i l ∙ sym (more_row (kept_below s zs n) (zs.row n) i (let c = S.count in omega arith))

  -- and give each row the same fault
  pub rules_fault : (i : ℕ) → fault_of r zs i ≡ fault_of s zs i
  rules_fault i = same _ _ (zs.row i) (rules_kept i)

-- ---- a row dropped from what is said of rows in order

-- b says what a says, without what a says of row k
pub record Drops {A : Type 0} (k : ℕ) (b a : ℕ → A) : Type 0 where
  pub earlier : (j : ℕ) → j < k → b j ≡ a j
  pub later : (j : ℕ) → k ≤ j → b j ≡ a (suc j)

-- n rows, then others
abbrev join : {A : Type 0} → ℕ → (ℕ → A) → (ℕ → A) → ℕ → A
join n a b k = cond (ltb k n) (a k) (b (k - n))

module _ {A : Type 0} (n : ℕ) (a b c d : ℕ → A) where
  join_same : ((i : ℕ) → a i ≡ c i) → ((i : ℕ) → b i ≡ d i) → (j : ℕ) → join n a b j ≡ join n c d j
  join_same e f j = rw (e j, f (j - n))

  -- a row of the first
  drops_first : (k : ℕ) → k < n → Drops k a c → ((i : ℕ) → b i ≡ d i) → Drops k (join (n - 1) a b) (join n c d)
  drops_first k l D e = record { earlier = low; later = high }
    where
      low : (j : ℕ) → j < k → join (n - 1) a b j ≡ join n c d j
      low j m = rw (lt-ltb j (n - 1) (omega arith), lt-ltb j n (omega arith)) (D.earlier j m)

      high : (j : ℕ) → k ≤ j → join (n - 1) a b j ≡ join n c d (suc j)
      high j m = elim (dec_lt j (n - 1)) [
        | yes h ↦ rw (lt-ltb j (n - 1) h, lt-ltb (suc j) n (omega arith)) (D.later j m)
        | no h ↦
            let z : suc j - n ≡ j - (n - 1) = omega arith in
            rw (le-ltb j (n - 1) (omega arith), le-ltb (suc j) n (omega arith), z) (e (j - (n - 1)))
      ]

  -- a row of the others
  drops_second : (k : ℕ) → n ≤ k → ((i : ℕ) → a i ≡ c i) → Drops (k - n) b d → Drops k (join n a b) (join n c d)
  drops_second k l e D = record { earlier = low; later = high }
    where
      low : (j : ℕ) → j < k → join n a b j ≡ join n c d j
      low j m = elim (dec_lt j n) [
        | yes h ↦ rw (lt-ltb j n h) (e j)
        | no h ↦ rw (le-ltb j n (omega arith)) (D.earlier (j - n) (omega arith))
      ]

      high : (j : ℕ) → k ≤ j → join n a b j ≡ join n c d (suc j)
      high j m =
          let z : suc j - n ≡ suc (j - n) = omega arith in
          rw (le-ltb j n (omega arith), le-ltb (suc j) n (omega arith), z) (D.later (j - n) (omega arith))

-- how many pass, without one that passes
drops_count : (n k : ℕ) (q p : ℕ → Bool) → k ≤ n → p k ≡ true → Drops k q p → count_below (suc n) p ≡ suc (count_below n q)
unfolding sum_below
drops_count zero k q p l t D = let z : k ≡ 0 = omega arith in rw (rw z at t)
drops_count (suc n) k q p l t D = elim (dec_lt k (suc n)) [
  | yes h ↦
      let ih = drops_count n k q p (omega arith) t D in
      rw (ih, D.later n (omega arith)) (omega arith)
  | no h ↦
      let z : k ≡ suc n = omega arith in
      rw (rw z at t, count_same_tests (suc n) q p (λ j m. D.earlier j (omega arith))) (omega arith)
]

-- ---- the file without a row

module _ (f : Headers) where
  abbrev pub without_platform : ℕ → Headers
  without_platform m =
      record { arch = f.arch; platforms = without m f.platforms; initializations = f.initializations; directives = f.directives }

  abbrev pub without_initialization : ℕ → Headers
  without_initialization m =
      record { arch = f.arch; platforms = f.platforms; initializations = without m f.initializations; directives = f.directives }

  abbrev pub without_directive : ℕ → Headers
  without_directive m =
      record { arch = f.arch; platforms = f.platforms; initializations = f.initializations; directives = without m f.directives }

-- row k, from 0 over the three lists
unfoldable pub without_row : ℕ → Headers → Headers
without_row k f =
    cond (ltb k f.platforms.count) (without_platform f k)
    (cond (ltb k (f.platforms.count + f.initializations.count)) (without_initialization f (k - f.platforms.count))
    (without_directive f (k - (f.platforms.count + f.initializations.count))))

-- g is f without row k, which changes nothing else
pub record Dropped (k : ℕ) (g f : Headers) : Type 0 where
  pub rows : rows_of f ≡ suc (rows_of g)
  pub faults : Drops k (report_fault g) (report_fault f)
  pub platforms : SameRows (kept_platforms g) (kept_platforms f)
  pub initializations : SameRows (kept_initializations g) (kept_initializations f)
  pub directives : SameRows (kept_directives g) (kept_directives f)

-- ---- behind a list whose kept rows are the same

module _ (arch : Arch) (ps qs : Rows IgvmPlatformHeader) (S : SameRows ps qs) (xs : Rows IgvmInitializationHeader) where
  same_rule : (is js : Rows IgvmInitializationHeader) (h : IgvmInitializationHeader) → SameRows is js → initialization_fault arch ps is h ≡ initialization_fault arch qs js h
  same_rule is js h T = initialization_same arch h S T

  initializations_fault : (i : ℕ) → fault_of (initialization_fault arch ps) xs i ≡ fault_of (initialization_fault arch qs) xs i
  initializations_fault i = rules_fault (initialization_fault arch ps) (initialization_fault arch qs) same_rule xs i

  initializations_kept : SameRows (kept (initialization_fault arch ps) xs) (kept (initialization_fault arch qs) xs)
  initializations_kept = rules_kept (initialization_fault arch ps) (initialization_fault arch qs) same_rule xs xs.count

module _ (arch : Arch) (is js : Rows IgvmInitializationHeader) (S : SameRows is js) (xs : Rows IgvmDirectiveHeader) where
  same_directive_rule : (ds es : Rows IgvmDirectiveHeader) (h : IgvmDirectiveHeader) → SameRows ds es → directive_fault arch is ds h ≡ directive_fault arch js es h
  same_directive_rule ds es h T = directive_same arch h S T

  directives_fault : (i : ℕ) → fault_of (directive_fault arch is) xs i ≡ fault_of (directive_fault arch js) xs i
  directives_fault i = rules_fault (directive_fault arch is) (directive_fault arch js) same_directive_rule xs i

  directives_kept : SameRows (kept (directive_fault arch is) xs) (kept (directive_fault arch js) xs)
  directives_kept = rules_kept (directive_fault arch is) (directive_fault arch js) same_directive_rule xs xs.count

-- ---- a row of each list

-- what the report says, list after list
report_join : (f : Headers) (k : ℕ)
    → report_fault f k ≡ join f.platforms.count (platform_report f) (join f.initializations.count (initialization_report f) (directive_report f)) k
unfolding report_fault
report_join f k = elim (dec_lt k f.platforms.count) [
  | yes l ↦ rw (lt-ltb k f.platforms.count l)
  | no l ↦
      elim (dec_lt k (f.platforms.count + f.initializations.count)) [
        | yes m ↦
            rw (
              le-ltb k f.platforms.count (omega arith),
              lt-ltb k (f.platforms.count + f.initializations.count) m,
              lt-ltb (k - f.platforms.count) f.initializations.count (omega arith),
            )
        | no m ↦
            let z : k - f.platforms.count - f.initializations.count ≡ k - (f.platforms.count + f.initializations.count) = omega arith in
            rw (
              le-ltb k f.platforms.count (omega arith),
              le-ltb k (f.platforms.count + f.initializations.count) (omega arith),
              le-ltb (k - f.platforms.count) f.initializations.count (omega arith),
              z,
            )
      ]
]

joined : (k : ℕ) (g f : Headers)
    → Drops k (join g.platforms.count (platform_report g) (join g.initializations.count (initialization_report g) (directive_report g)))
    (join f.platforms.count (platform_report f) (join f.initializations.count (initialization_report f) (directive_report f)))
    → Drops k (report_fault g) (report_fault f)
joined k g f D = record {
  earlier = λ j l. report_join g j ∙ D.earlier j l ∙ sym (report_join f j);
  later = λ j l. report_join g j ∙ D.later j l ∙ sym (report_join f (suc j));
}

platform_dropped : (f : Headers) (k : ℕ) → k < f.platforms.count → is_fault (platform_report f k) ≡ true → Dropped k (without_platform f k) f
platform_dropped f k l t = record {
  rows = omega arith;
  faults = joined k (without_platform f k) f
      (drops_first f.platforms.count _ _ (platform_report f) _ k l
      (record {
        earlier = earlier_fault (platform_fault f.arch) (steady_platforms f.arch) f.platforms k t;
        later = later_fault (platform_fault f.arch) (steady_platforms f.arch) f.platforms k t;
      })
      (join_same f.initializations.count _ _ _ _
      (initializations_fault f.arch _ _ S f.initializations) (directives_fault f.arch _ _ T f.directives)));
  platforms = S;
  initializations = T;
  directives = directives_kept f.arch _ _ T f.directives;
}
  where
    S : SameRows (kept_platforms (without_platform f k)) (kept_platforms f)
    S = kept_without (platform_fault f.arch) (steady_platforms f.arch) f.platforms k t l

    T : SameRows (kept_initializations (without_platform f k)) (kept_initializations f)
    T = initializations_kept f.arch _ _ S f.initializations

initialization_dropped : (f : Headers) (k : ℕ) → f.platforms.count ≤ k → k < f.platforms.count + f.initializations.count
    → is_fault (initialization_report f (k - f.platforms.count)) ≡ true → Dropped k (without_initialization f (k - f.platforms.count)) f
initialization_dropped f k l h t = record {
  rows = omega arith;
  faults = joined k (without_initialization f (k - f.platforms.count)) f
      (drops_second f.platforms.count (platform_report f) _ (platform_report f) _ k l (λ i. refl)
      (drops_first f.initializations.count _ _ (initialization_report f) _ (k - f.platforms.count) (omega arith)
      (record {
        earlier = earlier_fault rule steady f.initializations (k - f.platforms.count) t;
        later = later_fault rule steady f.initializations (k - f.platforms.count) t;
      })
      (directives_fault f.arch _ _ T f.directives)));
  platforms = rows_refl _;
  initializations = T;
  directives = directives_kept f.arch _ _ T f.directives;
}
  where
    rule : Rows IgvmInitializationHeader → IgvmInitializationHeader → Fault
    rule = initialization_fault f.arch (kept_platforms f)

    steady : Steady rule
    steady = steady_initializations f.arch (kept_platforms f)

    T : SameRows (kept_initializations (without_initialization f (k - f.platforms.count))) (kept_initializations f)
    T = kept_without rule steady f.initializations (k - f.platforms.count) t (omega arith)

directive_dropped : (f : Headers) (k : ℕ) → f.platforms.count + f.initializations.count ≤ k → k < rows_of f
    → is_fault (directive_report f (k - (f.platforms.count + f.initializations.count))) ≡ true
    → Dropped k (without_directive f (k - (f.platforms.count + f.initializations.count))) f
directive_dropped f k l h t = record {
  rows = omega arith;
  faults = joined k (without_directive f (k - (f.platforms.count + f.initializations.count))) f
      (drops_second f.platforms.count (platform_report f) _ (platform_report f) _ k (omega arith) (λ i. refl)
      (drops_second f.initializations.count (initialization_report f) _ (initialization_report f) _ (k - f.platforms.count) (omega arith) (λ i. refl) D));
  platforms = rows_refl _;
  initializations = rows_refl _;
  directives = kept_without rule steady f.directives (k - (f.platforms.count + f.initializations.count)) t (omega arith);
}
  where
    rule : Rows IgvmDirectiveHeader → IgvmDirectiveHeader → Fault
    rule = directive_fault f.arch (kept_initializations f)

    steady : Steady rule
    steady = steady_directives f.arch (kept_initializations f)

    D : Drops (k - f.platforms.count - f.initializations.count)
        (directive_report (without_directive f (k - (f.platforms.count + f.initializations.count)))) (directive_report f)
    D =
        let z : k - f.platforms.count - f.initializations.count ≡ k - (f.platforms.count + f.initializations.count) = omega arith in
        rw z
        (record {
          earlier = earlier_fault rule steady f.directives (k - (f.platforms.count + f.initializations.count)) t;
          later = later_fault rule steady f.directives (k - (f.platforms.count + f.initializations.count)) t;
        })

-- ---- any row

module _ (f : Headers) (k : ℕ) (below : k < rows_of f) (faulty : report_word f k ≢ 0) where
  -- A ROW WHOSE WORD IS NOT 0 MAY BE DROPPED
  pub dropped : Dropped k (without_row k f) f
  unfolding without_row report_fault
  dropped = go (fault_number (report_fault f k) faulty)
    where
      go : is_fault (report_fault f k) ≡ true → Dropped k (without_row k f) f
      go t = elim (dec_lt k f.platforms.count) [
        | yes l ↦ rw (lt-ltb k f.platforms.count l) (platform_dropped f k l (rw (lt-ltb k f.platforms.count l) at t))
        | no l ↦
            elim (dec_lt k (f.platforms.count + f.initializations.count)) [
              | yes m ↦
                  rw (le-ltb k f.platforms.count (omega arith), lt-ltb k (f.platforms.count + f.initializations.count) m)
                  (initialization_dropped f k (omega arith) m
                  (rw (le-ltb k f.platforms.count (omega arith), lt-ltb k (f.platforms.count + f.initializations.count) m) at t))
              | no m ↦
                  rw (le-ltb k f.platforms.count (omega arith), le-ltb k (f.platforms.count + f.initializations.count) (omega arith))
                  (directive_dropped f k (omega arith) below
                  (rw (le-ltb k f.platforms.count (omega arith), le-ltb k (f.platforms.count + f.initializations.count) (omega arith)) at t))
            ]
      ]

  -- one row less
  pub dropped_rows : rows_of (without_row k f) + 1 ≡ rows_of f
  dropped_rows = let e = dropped.rows in omega arith

  -- the rows before it keep their words
  pub dropped_earlier : (j : ℕ) → j < k → report_word (without_row k f) j ≡ report_word f j
  dropped_earlier j l = ap (λ (x : Fault). x.number) (dropped.faults.earlier j l)

  -- the rows behind it keep their words, one row higher up
  pub dropped_later : (j : ℕ) → k ≤ j → report_word (without_row k f) j ≡ report_word f (j + 1)
  dropped_later j l = rw add-one (ap (λ (x : Fault). x.number) (dropped.faults.later j l))

  -- 15 and 34 are told alike
  pub dropped_told : (report_no_platform (without_row k f) ≡ report_no_platform f) × (report_no_context (without_row k f) ≡ report_no_context f)
  dropped_told = (
    ap is_fault (no_platform_same (kept_headers (without_row k f)) (kept_headers f) dropped.platforms),
    ap is_fault (no_context_same (kept_headers (without_row k f)) (kept_headers f) dropped.initializations dropped.directives),
  )

  -- one faulty row less
  pub dropped_faulty : faulty_rows (without_row k f) + 1 ≡ faulty_rows f
  unfolding faulty_rows
  dropped_faulty =
      let e = dropped.rows in
      rw (e, add-one)
      (sym (drops_count (rows_of (without_row k f)) k (λ j. is_fault (report_fault (without_row k f) j)) (λ j. is_fault (report_fault f j)) (omega arith)
      (fault_number (report_fault f k) faulty)
      (record { earlier = λ j l. ap is_fault (dropped.faults.earlier j l); later = λ j l. ap is_fault (dropped.faults.later j l) })))

-- ---- every faulty row dropped at once

module _ {H : Type 0} (rule : Rows H → H → Fault) (steady : Steady rule) (xs : Rows H) where
  -- no kept row has a fault in the list of the kept rows
  kept_below_lem : (n : ℕ) → n ≤ (kept rule xs).count → (j : ℕ) → j < n → is_fault (fault_of rule (kept rule xs) j) ≡ false
  kept_below_lem zero l j h = absurd (not-suc-le-zero h)
  kept_below_lem (suc n) l j h = go (kept_below_lem n (omega arith)) (top h)
    where
      go : ((j : ℕ) → j < n → is_fault (fault_of rule (kept rule xs) j) ≡ false) → (j ≡ n) ⊎ (j < n) → is_fault (fault_of rule (kept rule xs) j) ≡ false
      go ih (inl e) = rw e (ap is_fault (fault_same rule (kept rule xs) steady n ih) ∙ kept_sound rule xs steady xs.count n (omega arith))
      go ih (inr m) = ih j m

  kept_again : SameRows (kept rule (kept rule xs)) (kept rule xs)
  kept_again = kept_all rule (kept rule xs) steady (kept rule xs).count (kept_below_lem (kept rule xs).count (omega arith))

module _ (f : Headers) where
  platforms_again : SameRows (kept_platforms (kept_headers f)) (kept_platforms f)
  platforms_again = kept_again (platform_fault f.arch) (steady_platforms f.arch) f.platforms

  initializations_again : SameRows (kept_initializations (kept_headers f)) (kept_initializations f)
  initializations_again =
      rows_trans (initializations_kept f.arch _ _ platforms_again (kept_initializations f))
      (kept_again (initialization_fault f.arch (kept_platforms f)) (steady_initializations f.arch (kept_platforms f)) f.initializations)

  directives_again : SameRows (kept_directives (kept_headers f)) (kept_directives f)
  directives_again =
      rows_trans (directives_kept f.arch _ _ initializations_again (kept_directives f))
      (kept_again (directive_fault f.arch (kept_initializations f)) (steady_directives f.arch (kept_initializations f)) f.directives)

  -- then every word is 0
  pub kept_words : (k : ℕ) → k < rows_of (kept_headers f) → report_word (kept_headers f) k ≡ 0
  kept_words k l = (fault_zero (report_fault (kept_headers f) k)).0 (elim (dec_lt k (kept_platforms f).count) [
    | yes m ↦
        ap is_fault (platform_word (kept_headers f) k m)
        ∙ kept_below_lem (platform_fault f.arch) (steady_platforms f.arch) f.platforms (kept_platforms f).count (omega arith) k m
    | no m ↦
        elim (dec_lt k ((kept_platforms f).count + (kept_initializations f).count)) [
          | yes h ↦
              let i = k - (kept_platforms f).count in
              let z : k ≡ (kept_platforms f).count + i = omega arith in
              rw z
              (ap is_fault (initialization_word (kept_headers f) i (omega arith) ∙ initializations_fault f.arch _ _ platforms_again (kept_initializations f) i)
              ∙ kept_below_lem (initialization_fault f.arch (kept_platforms f)) (steady_initializations f.arch (kept_platforms f)) f.initializations
              (kept_initializations f).count (omega arith) i (omega arith))
          | no h ↦
              let i = k - ((kept_platforms f).count + (kept_initializations f).count) in
              let z : k ≡ (kept_platforms f).count + (kept_initializations f).count + i = omega arith in
              rw z
              (ap is_fault (directive_word (kept_headers f) i (omega arith) ∙ directives_fault f.arch _ _ initializations_again (kept_directives f) i)
              ∙ kept_below_lem (directive_fault f.arch (kept_initializations f)) (steady_directives f.arch (kept_initializations f)) f.directives
              (kept_directives f).count (omega arith) i (omega arith))
        ]
  ])

  -- and 15 and 34 are told as before
  pub kept_told : (report_no_platform (kept_headers f) ≡ report_no_platform f) × (report_no_context (kept_headers f) ≡ report_no_context f)
  kept_told = (
    ap is_fault (no_platform_same (kept_headers (kept_headers f)) (kept_headers f) platforms_again),
    ap is_fault (no_context_same (kept_headers (kept_headers f)) (kept_headers f) initializations_again directives_again),
  )
