-- Laws of the report on the directive rows: what the words written tell, what a row's report says, and what holds at a turn of the loop.
use mir.Val.{bool_byte}
use Rattle.rows.{proofs.Kit.{◌≡◌, false≢true, refl, sym, ap, ◌∙◌, Bool, true, false, not, ◌&&◌, ◌||◌, or-false, List, [], ◌∷◌, ℕ, ◌+◌, ◌*◌, ◌≤◌, ◌<◌, add-one, add_assoc, arith, eqb, length}, specs.Below.{any_below, sum_below, count_below}, specs.Rows.{Rows, any, before, more}, proofs.Bools.{one_at_most, byte_count}, proofs.BelowLaws.{any_more, any_same_tests, count_more}, proofs.SameLaws.{rows_refl, any_rows, more_last, more_before}}
use Rattle.std.specs.Prelude.{⊤, Result}
use Rattle.le.specs.Le.{le_at}
use Rattle.igvm_defs.{specs.declared.Arch.Arch, specs.declared.Fault.Fault, specs.Refusals.{no_fault, is_fault, Told}, proofs.RefusalLaws.{refuse_fault, no_fault_lem}}
use Rattle.lent.{specs.Lent.{word_put, words_put}, proofs.LentLaws.{word_length, words_length, words_more, put_word_is}}
use Rattle.sheet.{specs.declared.Cursor.Cursor, specs.Head.{limits, head_of, first_directive}, specs.Read.Readable, specs.Walk.cursor_at, proofs.Readable.readable_bounds}
use Rattle.directive_header.{specs.declared.IgvmDirectiveHeader.IgvmDirectiveHeader}
use Rattle.sheet_headers.{specs.Headers.sheet_headers, proofs.HeaderLaws.sheet_counts}
use Rattle.rules.{specs.Regions.region_passes, specs.Directives.{allocates, inserts, bad_area, directive_fault, is_context, no_context}, specs.Initializations.initialization_fault, specs.Verdict.no_matching_vp_context, specs.Kept.{kept_below}, specs.Report.{kept_platforms, kept_initializations, directive_report, kept_directives, faulty_directives, report_word, report_no_context}, proofs.SameRules.{area_same, directive_same}, proofs.KeptLaws.{kept_count, kept_any, kept_next}, proofs.ReportLaws.directive_word, proofs.NumberLaws.word_most, proofs.Acceptance.directive_says}
use Rattle.reloc_regions.specs.{declared.RelocRegions.RelocRegions, Regions.entry}
use Rattle.initialization_check.specs.Record.{any_region, HoldsRegions}
use Rattle.directive_check.{specs.declared.AreaName.AreaName, specs.Record.{HoldsContexts, lacks_context, DirectiveStepped, how, area_in, area_number, Names}, proofs.DirectiveRecordLaws.{holds_no_contexts, lacks_says, allocates_says, inserts_says}}
use Rattle.area_table.{specs.declared.AreaTable.AreaTable, specs.Table.Knows, proofs.AreaTableLaws.holds_same}
use Rattle.directive_row.specs.Row.{area_state, state_of}
use Rattle.directive_report.specs.Reported.{kept_to, WordsTo, bad_in, said, after_row, RowReported}
use Rattle.directive_report.proofs.AreaLaws.{Sound, kept_inserted, named_bad, named_more}

-- the rule of this list
abbrev pub rule_of : List ℕ → Rows IgvmDirectiveHeader → IgvmDirectiveHeader → Fault
rule_of s = directive_fault (sheet_headers s).arch (kept_initializations (sheet_headers s))

-- ---- the words written so far

-- the word of directive row i
pub word_of : (s : List ℕ) (i : ℕ) → i < (head_of s).directives → report_word (sheet_headers s) (first_directive s + i) ≡ (directive_report (sheet_headers s) i).number
word_of s i l =
    let counts = sheet_counts s in
    rw (← counts.platforms, ← counts.initializations) (ap (λ (x : Fault). x.number) (directive_word (sheet_headers s) i (omega arith)))

-- words that were put can be read back
pub words_to : (s lent words : List ℕ) (n : ℕ) → 8 * (first_directive s + n) ≤ length lent → words ≡ words_put (first_directive s) n (report_word (sheet_headers s)) lent → WordsTo s words n
words_to s lent words n room e =
    record {
      room = rw (e, words_length) room;
      word = λ j l. rw e (put_word_is (first_directive s) n j (report_word (sheet_headers s)) lent room l (let m = word_most (sheet_headers s) (first_directive s + j) in omega arith));
    }

-- a row is kept where its word is 0
pub zero_kept : (s words : List ℕ) (n i : ℕ) → WordsTo s words n → i < n → n ≤ (head_of s).directives → eqb (le_at 8 words (8 * (first_directive s + i))) 0 ≡ not (is_fault (directive_report (sheet_headers s) i))
unfolding is_fault
zero_kept s words n i W l m = rw (W.word i l, word_of s i (omega arith)) (sym (not_not (eqb (directive_report (sheet_headers s) i).number 0)))
  where
    not_not : (b : Bool) → not (not b) ≡ b
    not_not true = refl
    not_not false = refl

-- ---- the kept rows read again

module _ (s words : List ℕ) (n i x : ℕ) (name : AreaName) (W : WordsTo s words n) (l : i < n) (m : n ≤ (head_of s).directives)
    (named : Names name ((sheet_headers s).directives.row i)) where
  pub allocated_next : any (allocates x) (kept_to s (i + 1))
      ≡ (any (allocates x) (kept_to s i) || (eqb (le_at 8 words (8 * (first_directive s + i))) 0 && (eqb (how name) 0 && eqb x (area_number (area_in name)))))
  allocated_next =
      rw (
        kept_any (rule_of s) (sheet_headers s).directives (allocates x) (i + 1),
        any_more i (λ j. not (is_fault (directive_report (sheet_headers s) j)) && allocates x ((sheet_headers s).directives.row j)),
        ← kept_any (rule_of s) (sheet_headers s).directives (allocates x) i,
        allocates_says x ((sheet_headers s).directives.row i),
        zero_kept s words n i W l m,
        named.0,
        named.1,
      )

  pub inserted_next : any (inserts x) (kept_to s (i + 1))
      ≡ (any (inserts x) (kept_to s i) || (eqb (le_at 8 words (8 * (first_directive s + i))) 0 && (eqb (how name) 2 && eqb x (area_number (area_in name)))))
  inserted_next =
      rw (
        kept_any (rule_of s) (sheet_headers s).directives (inserts x) (i + 1),
        any_more i (λ j. not (is_fault (directive_report (sheet_headers s) j)) && inserts x ((sheet_headers s).directives.row j)),
        ← kept_any (rule_of s) (sheet_headers s).directives (inserts x) i,
        inserts_says x ((sheet_headers s).directives.row i),
        zero_kept s words n i W l m,
        named.0,
        named.1,
      )

pub no_areas : (s : List ℕ) (x : ℕ) → (false ≡ any (allocates x) (kept_to s 0)) × (false ≡ any (inserts x) (kept_to s 0))
unfolding kept_below any_below
no_areas s x = (refl, refl)

pub state_kept : (s : List ℕ) (n x : ℕ) (allocated inserted : Bool) (r : ℕ) → r ≡ area_state allocated inserted → allocated ≡ any (allocates x) (kept_to s n)
    → inserted ≡ any (inserts x) (kept_to s n) → r ≡ state_of (kept_to s n) x
unfolding state_of
state_kept s n x allocated inserted r e a i = e ∙ rw (a, i)

-- ---- one row

module _ (s : List ℕ) (i : ℕ) where
  ks : Rows IgvmDirectiveHeader
  ks = kept_to s i

  x : IgvmDirectiveHeader
  x = (sheet_headers s).directives.row i

  sound : Sound (kept_to s i)
  sound = kept_inserted (sheet_headers s).arch (kept_initializations (sheet_headers s)) (sheet_headers s).directives i

  -- 32 by what is known of the row's area
  pub bad_row : (h : IgvmDirectiveHeader) (name : AreaName) (state : ℕ) → h ≡ (sheet_headers s).directives.row i → Names name ((sheet_headers s).directives.row i)
      → state ≡ said (state_of (kept_to s i)) (area_in name) → bad_in (how name) state ≡ bad_area (kept_to s i) h
  bad_row h name state e named t = rw (t, e) (named_bad (kept_to s i) ((sheet_headers s).directives.row i) name named sound)

  -- the row asked about after the kept rows: its fault, and the masks with it behind them
  pub row_told : (a : Arch) (h : IgvmDirectiveHeader) (bad : Bool) (told : Result ⊤ Fault) (contexts masks : List ℕ) → a ≡ (sheet_headers s).arch
      → h ≡ (sheet_headers s).directives.row i → bad ≡ bad_area (kept_to s i) h → HoldsContexts contexts (kept_to s i)
      → ((xs : Rows IgvmDirectiveHeader) (j : ℕ) → h ≡ xs.row j → bad ≡ bad_area (before j xs) (xs.row j) → HoldsContexts contexts (before j xs)
      → DirectiveStepped a (kept_initializations (sheet_headers s)) xs j told masks)
      → Told told (directive_report (sheet_headers s) i) × HoldsContexts masks (more (kept_to s i) h)
  row_told a h bad told contexts masks arch row b holds step =
      let is = kept_initializations (sheet_headers s) in
      let same = more_before (kept_to s i) h in
      let known : bad ≡ bad_area (before (kept_to s i).count (more (kept_to s i) h)) h = b ∙ sym (area_same same h) in
      let stepped = step (more (kept_to s i) h) (kept_to s i).count (sym (more_last (kept_to s i) h)) (rw (more_last (kept_to s i) h) known)
      (λ level bits. holds level bits ∙ sym (any_rows same (is_context level bits))) in
      let last : directive_fault a is (before (kept_to s i).count (more (kept_to s i) h)) ((more (kept_to s i) h).row (kept_to s i).count) ≡ directive_fault a is (kept_to s i) h
      = rw (more_last (kept_to s i) h) (directive_same a h (rows_refl is) same) in
      let own : directive_fault a is (kept_to s i) h ≡ directive_report (sheet_headers s) i = rw (arch, row) in
      (rw (last ∙ own) at stepped.fault, rw add-one at stepped.next)

  -- the row is kept, or the kept rows are those before it
  pub kept_with : (P : Rows IgvmDirectiveHeader → Type 0) → directive_report (sheet_headers s) i ≡ no_fault → P (more (kept_to s i) ((sheet_headers s).directives.row i)) → P (kept_to s (i + 1))
  kept_with P e p =
      kept_next (rule_of s) (sheet_headers s).directives P i no_fault (sym e) (λ t. absurd (false≢true (sym no_fault_lem ∙ t))) (λ t. p)

  pub kept_without : (P : Rows IgvmDirectiveHeader → Type 0) (f : Fault) → (f ≡ directive_report (sheet_headers s) i) × (is_fault f ≡ true) → P (kept_to s i) → P (kept_to s (i + 1))
  kept_without P f (e, t) p = kept_next (rule_of s) (sheet_headers s).directives P i f e (λ _. p) (λ no. absurd (false≢true (sym no ∙ t)))

  -- what is known of areas after a row that is kept
  pub areas_told : (name : AreaName) → directive_report (sheet_headers s) i ≡ no_fault → Names name ((sheet_headers s).directives.row i)
      → (y : ℕ) → after_row name (state_of (kept_to s i)) y ≡ state_of (kept_to s (i + 1)) y
  areas_told name e named y =
      kept_with (λ rows. after_row name (state_of (kept_to s i)) y ≡ state_of rows y) e
      (named_more (kept_to s i) ((sheet_headers s).directives.row i) name y named sound
      ((directive_says (sheet_headers s).arch (kept_initializations (sheet_headers s)) (kept_to s i) ((sheet_headers s).directives.row i)).0 (rw e no_fault_lem)).1)

-- ---- the loop

pub first_areas : {LINKS NODES : ℕ} (s : List ℕ) (areas : AreaTable LINKS NODES) → Knows areas (λ _. 0) → Knows areas (state_of (kept_to s 0))
unfolding kept_below any_below state_of
first_areas s areas h = holds_same h (λ x. refl)

pub first_contexts : (s : List ℕ) → HoldsContexts (0 ∷ 0 ∷ 0 ∷ []) (kept_to s 0)
unfolding kept_below
first_contexts s = holds_no_contexts (sheet_headers s).directives

pub none_counted : (s : List ℕ) → 0 ≡ count_below 0 (λ j. is_fault (directive_report (sheet_headers s) j))
unfolding sum_below
none_counted s = refl

-- at the head of the loop
pub record DirectivesReported {LINKS NODES : ℕ} (s : List ℕ) (areas : AreaTable LINKS NODES) (lent words : List ℕ) (c : Cursor) (contexts : List ℕ) (faulty i : ℕ) : Type 0 where
  pub at : c ≡ cursor_at s (first_directive s + i)
  pub contexts_kept : HoldsContexts contexts (kept_to s i)
  pub areas_kept : Knows areas (state_of (kept_to s i))
  pub counted : faulty ≡ count_below i (λ j. is_fault (directive_report (sheet_headers s) j))
  pub few_faulty : faulty ≤ i
  pub same : length words ≡ length lent
  pub put : words ≡ words_put (first_directive s) i (report_word (sheet_headers s)) lent

module _ {LINKS NODES : ℕ} {s : List ℕ} {areas : AreaTable LINKS NODES} {lent words : List ℕ} {c : Cursor} {contexts : List ℕ} {faulty i : ℕ}
    (r : DirectivesReported s areas lent words c contexts faulty i) where
  pub words_so_far : 8 * (first_directive s + (head_of s).directives) ≤ length lent → i ≤ (head_of s).directives → WordsTo s words i
  words_so_far room b = words_to s lent words i (omega arith) r.put

  pub directive_next : (word : ℕ) (next : Cursor) (masks : List ℕ) (after : AreaTable LINKS NODES) → i < (head_of s).directives → RowReported s i word masks next after
      → DirectivesReported s after lent (word_put (first_directive s + i) word words) next masks (faulty + bool_byte (not (eqb word 0))) (i + 1)
  unfolding is_fault
  directive_next word next masks after l row =
      record {
        at = rw (row.after, add_assoc);
        contexts_kept = row.contexts_kept;
        areas_kept = row.areas_kept;
        counted = rw (count_more i (λ j. is_fault (directive_report (sheet_headers s) j)), ← row.told, r.counted, byte_count (not (eqb word 0)));
        few_faulty = let m = r.few_faulty in let o = one_at_most (not (eqb word 0)) in omega arith;
        same = rw word_length r.same;
        put = rw r.put (words_more (first_directive s) i word (report_word (sheet_headers s)) lent (rw (word_of s i l) row.told));
      }

  pub directives_end : (head_of s).directives ≡ i
      → (HoldsContexts contexts (kept_directives (sheet_headers s)) × (faulty ≡ faulty_directives (sheet_headers s)))
      × (words ≡ words_put (first_directive s) (head_of s).directives (report_word (sheet_headers s)) lent)
  directives_end e =
      let z = sym e ∙ sym (sheet_counts s).directives in
      ((rw z at r.contexts_kept, rw z at r.counted), rw (sym e) at r.put)

-- ---- the kept regions

-- they are no more than there are rows
pub held_room : {N : ℕ} (s : List ℕ) (held : RelocRegions N) → Readable limits s → HoldsRegions held (kept_initializations (sheet_headers s)) → held.count ≤ 64
held_room s held ok h =
    let m = h.count in let b = readable_bounds s ok in let counts = sheet_counts s in
    let k = kept_count (initialization_fault (sheet_headers s).arch (kept_platforms (sheet_headers s))) (sheet_headers s).initializations (sheet_headers s).initializations.count in
    omega arith

-- ---- 34 over the kept rows

pub lacks_told : {N : ℕ} (s : List ℕ) (held : RelocRegions N) (contexts : List ℕ) → HoldsRegions held (kept_initializations (sheet_headers s)) → HoldsContexts contexts (kept_directives (sheet_headers s))
    → any_region (lacks_context contexts) held ≡ report_no_context (sheet_headers s)
unfolding no_matching_vp_context
lacks_told s held contexts regions holds =
    any_same_tests held.count (λ j. lacks_context contexts (entry held j)) (λ j. no_context (kept_directives (sheet_headers s)) (entry held j))
    (λ j l. lacks_says contexts (kept_directives (sheet_headers s)) (entry held j) holds)
    ∙ regions.same (no_context (kept_directives (sheet_headers s)))
    ∙ sym (refuse_fault (any (region_passes (no_context (kept_directives (sheet_headers s)))) (kept_initializations (sheet_headers s))) 33 0 no_fault ∙ rw no_fault_lem (or-false _))
