-- Laws of the passes over the initialization rows: a row more, what holds at a turn of the loop, and what it says at the end.
use mir.Val.{bool_byte}
use Rattle.std.specs.Prelude.{Result, Ok, Err, MatchResult}
use Rattle.std.specs.Result.{is_ok}
use Rattle.rows.{proofs.Kit.{◌≡◌, refl, sym, ap, ap₂, ◌∙◌, true, false, not, false≢true, List, ◌⊎◌, inl, inr, none, some, Bool, ℕ, ◌+◌, ◌*◌, ◌≤◌, ◌<◌, add-one, add_assoc, arith, eqb, eqb-true, length}, proofs.Bools.{which, not_both, byte_count}, specs.Below.{sum_below, count_below}, specs.Rows.{Rows, before, more}, specs.Same.SameRows, proofs.BelowLaws.{count_more, count_le}, proofs.SameLaws.{rows_sym, more_last, more_before}}
use Rattle.igvm_defs.{specs.declared.Arch.Arch, specs.declared.Fault.Fault, specs.declared.Refusal.Refusal, specs.Kinds.initialization_list, specs.Refusals.{no_fault, no_refusal, is_fault, is_refusal, in_row, first_fault}, proofs.RefusalLaws.row_refusal_lem}
use Rattle.lent.{specs.Lent.{word_put, words_put}, proofs.LentLaws.{words_none, words_more, words_length}}
use Rattle.sheet.{specs.declared.Cursor.Cursor, specs.Head.{limits, head_of}, specs.Table.{row_kind, body_of}, specs.Read.Readable, specs.Walk.cursor_at, proofs.Readable.readable_bounds}
use Rattle.platform_header.specs.declared.IgvmPlatformHeader.{IgvmPlatformHeader}
use Rattle.initialization_header.{specs.declared.IgvmInitializationHeader.IgvmInitializationHeader, specs.Initializations.initialization_of}
use Rattle.sheet_headers.{specs.Headers.sheet_headers, proofs.HeaderLaws.sheet_counts, proofs.ListLaws.{AtList, at_initialization, initialization_header, RowsReached, rows_next, rows_stop, rows_end}}
use Rattle.rules.{specs.declared.Region.Region, specs.Regions.region_of, specs.Initializations.initialization_fault, specs.Verdict.{initialization_faults, initializations_refusal}, specs.Kept.kept_below, specs.Report.{initialization_report, kept_platforms, kept_initializations, faulty_initializations, report_fault, report_word}, proofs.{KeptLaws.{kept_count, kept_next}, ReportLaws.initialization_word}}
use Rattle.reloc_regions.specs.{declared.RelocRegions.RelocRegions, Regions.{pushed, Lengths}}
use Rattle.by_start.{specs.{declared.Order.Order, ByStart.{Ordered}}}
use Rattle.platform_check.{specs.declared.Platforms.Platforms, specs.Record.HoldsPlatforms, proofs.RecordLaws.holds_count}
use Rattle.initialization_check.{specs.Record.HoldsRegions, proofs.RecordLaws.{holds_none, holds_same, holds_without, holds_pushed}}

-- ---- a row more

module _ {N : ℕ} (r : RelocRegions N) (xs : Rows IgvmInitializationHeader) (h : IgvmInitializationHeader) (held : HoldsRegions r xs) where
  here : region_of ((more xs h).row xs.count) ≡ region_of h
  here = ap region_of (more_last xs h)

  among : HoldsRegions r (before xs.count (more xs h))
  among = holds_same r (rows_sym (more_before xs h)) held

  whole : SameRows (before (xs.count + 1) (more xs h)) (more xs h)
  whole = record { count = add-one xs.count; row = λ j _. refl }

  -- a row with no region
  pub more_without : region_of h ≡ none → HoldsRegions r (more xs h)
  more_without e = holds_same r whole (holds_without r (more xs h) xs.count (here ∙ e) among)

  -- a row with a region
  pub more_pushed : (new : Region) → Lengths (pushed r new) → r.count < N → region_of h ≡ some new → HoldsRegions (pushed r new) (more xs h)
  more_pushed new lengths room e = holds_same (pushed r new) whole (holds_pushed r new lengths room (more xs h) xs.count (here ∙ e) among)

-- the rows before row i and row i are the rows before row i + 1
before_next : (xs : Rows IgvmInitializationHeader) (i : ℕ) (h : IgvmInitializationHeader) → h ≡ xs.row i → SameRows (more (before i xs) h) (before (i + 1) xs)
before_next xs i h e = record { count = sym (add-one i); row = λ j _. go j (which (eqb j i)) }
  where
    go : (j : ℕ) → (eqb j i ≡ true) ⊎ (eqb j i ≡ false) → (more (before i xs) h).row j ≡ xs.row j
    go j (inl t) = rw (t, e, eqb-true j i t)
    go j (inr f) = rw f

-- what holds where an answer is Ok
pub where_ok : {T E : Type 0} (r : Result T E) (P : T → Type 0) (Q : E → Type 0) → true ≡ is_ok r → MatchResult r P Q → (x : T) × P x
where_ok (Ok x) P Q e h = (x, h)
where_ok (Err f) P Q e h = absurd (let no : ⊥ = cc in no)

-- ---- a pass

-- what is asked of the sheet, and of the record of its platforms
pub record Asked (s : List ℕ) (first n : ℕ) (a : Arch) (p : Platforms) (ps : Rows IgvmPlatformHeader) : Type 0 where
  pub readable : Readable limits s
  pub first_row : first ≡ (head_of s).platforms
  pub rows : n ≡ (head_of s).initializations
  pub arch : a ≡ (sheet_headers s).arch
  pub platforms : HoldsPlatforms p ps

module _ {s : List ℕ} {first n : ℕ} {a : Arch} {p : Platforms} {ps : Rows IgvmPlatformHeader} (asked : Asked s first n a p ps) where
  pub asked_known : (c : Cursor) (i : ℕ) → c ≡ cursor_at s (first + i) → i < n → AtList s initialization_list c
  asked_known c i at l = at_initialization s asked.readable c i (rw asked.first_row at at) (rw (← asked.rows) l)

  -- the header at the cursor is row i's
  pub asked_row : (c : Cursor) (i : ℕ) (h : IgvmInitializationHeader) → c ≡ cursor_at s (first + i) → h ≡ initialization_of (row_kind s c.row) (body_of s c.row)
      → h ≡ (sheet_headers s).initializations.row i
  asked_row c i h at e = e ∙ initialization_header s c.row i (rw (at, asked.first_row))

  -- the row's number, and the room for its region
  pub asked_room : (r : RelocRegions 64) (xs : Rows IgvmInitializationHeader) (i : ℕ) → HoldsRegions r xs → xs.count ≤ i → i < n
      → (first + i < 80) × (i < 64) × (r.count < 64) × (p.count ≤ 16)
  asked_room r xs i held k l =
      let b = readable_bounds s asked.readable in let e = asked.rows in let d = asked.first_row in let h = held.count in let m = holds_count p ps asked.platforms in
      omega arith

-- ---- the verdict

-- at row i of n: no row before it has a fault, and the record has their regions
pub record InitializationsReached (s : List ℕ) (first n : ℕ) (a : Arch) (p : Platforms) (c : Cursor) (r : RelocRegions 64) (o : Order 65) (i : ℕ) : Type 0 where
  pub asked : Asked s first n a p (sheet_headers s).platforms
  pub reached : RowsReached s first n (initialization_faults (sheet_headers s)) c i
  pub holds : HoldsRegions r (before i (sheet_headers s).initializations)
  pub ordered : Ordered o.next r.gpa r.size r.count o

module _ {s : List ℕ} {first n : ℕ} {a : Arch} {p : Platforms} {c : Cursor} {r : RelocRegions 64} {o : Order 65} {i : ℕ} (at : InitializationsReached s first n a p c r o i) where
  pub initialization_known : i < n → AtList s initialization_list c
  initialization_known l = asked_known at.asked c i at.reached.at l

  pub initialization_room : i < n → (first + i < 80) × (i < 64) × (r.count < 64) × (p.count ≤ 16)
  initialization_room l = asked_room at.asked r _ i at.holds (omega arith) l

  -- the fault of the header at the cursor is that of row i
  faults_at : (h : IgvmInitializationHeader) → h ≡ initialization_of (row_kind s c.row) (body_of s c.row)
      → initialization_fault a (sheet_headers s).platforms (before i (sheet_headers s).initializations) h ≡ initialization_faults (sheet_headers s) i
  faults_at h e = rw (at.asked.arch, asked_row at.asked c i h at.reached.at e)

  refusal_of : initializations_refusal (sheet_headers s) ≡ first_fault first n (initialization_faults (sheet_headers s))
  unfolding initializations_refusal
  refusal_of =
      let counts = sheet_counts s in
      ap₂ (λ (x y : ℕ). first_fault x y (initialization_faults (sheet_headers s))) (counts.platforms ∙ sym at.asked.first_row) (counts.initializations ∙ sym at.asked.rows)

  -- row i has no fault
  pub initializations_next : (h : IgvmInitializationHeader) (next : Cursor) (q : RelocRegions 64) (w : Order 65) → h ≡ initialization_of (row_kind s c.row) (body_of s c.row) → i < n
      → initialization_fault a (sheet_headers s).platforms (before i (sheet_headers s).initializations) h ≡ no_fault → HoldsRegions q (more (before i (sheet_headers s).initializations) h)
      → Ordered w.next q.gpa q.size q.count w → next ≡ cursor_at s (c.row + 1) → InitializationsReached s first n a p next q w (i + 1)
  unfolding is_fault
  initializations_next h next q w e l none_wrong held ordered after =
      record {
        asked = at.asked;
        reached = rows_next s first n (initialization_faults (sheet_headers s)) c next i at.reached l (rw (← faults_at h e, none_wrong)) after;
        holds = holds_same q (before_next (sheet_headers s).initializations i h (asked_row at.asked c i h at.reached.at e)) held;
        ordered = ordered;
      }

  -- row i has one
  pub initializations_stop : (h : IgvmInitializationHeader) (t : Refusal) → h ≡ initialization_of (row_kind s c.row) (body_of s c.row) → i < n
      → t ≡ in_row (first + i + 1) (initialization_fault a (sheet_headers s).platforms (before i (sheet_headers s).initializations) h)
      → is_fault (initialization_fault a (sheet_headers s).platforms (before i (sheet_headers s).initializations) h) ≡ true
      → (t ≡ initializations_refusal (sheet_headers s)) × (is_refusal (initializations_refusal (sheet_headers s)) ≡ true)
  initializations_stop h t e l is fault =
      let z = faults_at h e in
      let same : initializations_refusal (sheet_headers s) ≡ t =
      refusal_of ∙ rows_stop s first n (initialization_faults (sheet_headers s)) c i at.reached l (rw z at fault) ∙ sym (is ∙ ap (in_row (first + i + 1)) z) in
      let refuses : is_refusal t ≡ true = rw (is, row_refusal_lem) fault in
      (sym same, rw same refuses)

  -- every row passed
  pub initializations_end : n ≤ i → (initializations_refusal (sheet_headers s) ≡ no_refusal) × HoldsRegions r (sheet_headers s).initializations
  initializations_end l =
      let (e, none_wrong) = rows_end s first n (initialization_faults (sheet_headers s)) c i at.reached l in
      (refusal_of ∙ none_wrong, rw (e ∙ at.asked.rows ∙ sym (sheet_counts s).initializations) at at.holds)

-- ---- the report

-- the rows kept of the first n
abbrev pub kept_to : List ℕ → ℕ → Rows IgvmInitializationHeader
kept_to s n = kept_below (initialization_fault (sheet_headers s).arch (kept_platforms (sheet_headers s))) (sheet_headers s).initializations n

-- row j is faulty, judged after the rows kept before it
abbrev pub faulty_at : List ℕ → ℕ → Bool
faulty_at s j = is_fault (initialization_report (sheet_headers s) j)

-- at row i of n: the record has the regions of the rows kept before it
pub record InitializationsReported (s : List ℕ) (first n : ℕ) (a : Arch) (p : Platforms) (lent words : List ℕ) (c : Cursor) (r : RelocRegions 64) (o : Order 65) (faulty i : ℕ) : Type 0 where
  pub asked : Asked s first n a p (kept_platforms (sheet_headers s))
  pub at : c ≡ cursor_at s (first + i)
  pub holds : HoldsRegions r (kept_to s i)
  pub ordered : Ordered o.next r.gpa r.size r.count o
  pub counted : faulty ≡ count_below i (faulty_at s)
  pub room : 8 * (first + n) ≤ length lent
  pub put : words ≡ words_put first i (report_word (sheet_headers s)) lent

-- what the record and the word of row i are behind it: a faulty row leaves no trace in the record
pub record RowReported (s : List ℕ) (i : ℕ) (r q : RelocRegions 64) (number : ℕ) : Type 0 where
  pub told : number ≡ (initialization_report (sheet_headers s) i).number
  pub skipped : faulty_at s i ≡ true → q ≡ r
  pub taken : faulty_at s i ≡ false → HoldsRegions q (more (kept_to s i) ((sheet_headers s).initializations.row i))

-- before the first row nothing is kept, nothing is faulty, and no word is put
pub reported_none : (s : List ℕ) (first n : ℕ) (a : Arch) (p : Platforms) (lent : List ℕ) (c : Cursor) (r : RelocRegions 64) (o : Order 65) → Asked s first n a p (kept_platforms (sheet_headers s))
    → 8 * (first + n) ≤ length lent → c ≡ cursor_at s (first + 0) → r.count ≡ 0 → Ordered o.next r.gpa r.size 0 o → InitializationsReported s first n a p lent lent c r o 0 0
unfolding kept_below sum_below
reported_none s first n a p lent c r o asked room at empty ordered =
    record {
      asked = asked;
      at = at;
      holds = holds_none r (sheet_headers s).initializations empty;
      ordered = rw empty ordered;
      counted = refl;
      room = room;
      put = sym (words_none first _ lent);
    }

module _ {s : List ℕ} {first n : ℕ} {a : Arch} {p : Platforms} {lent words : List ℕ} {c : Cursor} {r : RelocRegions 64} {o : Order 65} {faulty i : ℕ}
    (at : InitializationsReported s first n a p lent words c r o faulty i) where
  pub reported_known : i < n → AtList s initialization_list c
  reported_known l = asked_known at.asked c i at.at l

  pub reported_room : i < n → (first + i < 80) × (i < 64) × (r.count < 64) × (p.count ≤ 16)
  reported_room l =
      asked_room at.asked r _ i at.holds (kept_count (initialization_fault (sheet_headers s).arch (kept_platforms (sheet_headers s))) (sheet_headers s).initializations i) l

  pub reported_few : faulty ≤ i
  reported_few = let q = at.counted in let f = count_le i (faulty_at s) in omega arith

  -- the lent bytes are as many as they were
  pub reported_length : length words ≡ length lent
  reported_length = rw (at.put, words_length)

  reported_row : (h : IgvmInitializationHeader) → h ≡ initialization_of (row_kind s c.row) (body_of s c.row) → h ≡ (sheet_headers s).initializations.row i
  reported_row h e = asked_row at.asked c i h at.at e

  reported_fault : (h : IgvmInitializationHeader) → h ≡ initialization_of (row_kind s c.row) (body_of s c.row)
      → initialization_fault a (kept_platforms (sheet_headers s)) (kept_to s i) h ≡ initialization_report (sheet_headers s) i
  reported_fault h e = rw (at.asked.arch, reported_row h e)

  pub reported_taken : (h : IgvmInitializationHeader) (q : RelocRegions 64) → h ≡ initialization_of (row_kind s c.row) (body_of s c.row)
      → initialization_fault a (kept_platforms (sheet_headers s)) (kept_to s i) h ≡ no_fault → HoldsRegions q (more (kept_to s i) h) → RowReported s i r q 0
  unfolding is_fault
  reported_taken h q e none_wrong held =
      let f : initialization_report (sheet_headers s) i ≡ no_fault = sym (reported_fault h e) ∙ none_wrong in
      record { told = rw f; skipped = λ t. absurd (false≢true (rw f at t)); taken = λ _. rw (← reported_row h e) held }

  pub reported_skipped : (h : IgvmInitializationHeader) (f : Fault) (q : RelocRegions 64) → h ≡ initialization_of (row_kind s c.row) (body_of s c.row)
      → f ≡ initialization_fault a (kept_platforms (sheet_headers s)) (kept_to s i) h → is_fault (initialization_fault a (kept_platforms (sheet_headers s)) (kept_to s i) h) ≡ true → q ≡ r
      → RowReported s i r q f.number
  reported_skipped h f q e told t same =
      let z = reported_fault h e in
      record { told = ap (λ (x : Fault). x.number) (told ∙ z); skipped = λ _. same; taken = λ n. not_both n (rw z at t) }

  pub reported_next : (next : Cursor) (q : RelocRegions 64) (w : Order 65) (number : ℕ) → i < n → RowReported s i r q number → Ordered w.next q.gpa q.size q.count w
      → next ≡ cursor_at s (c.row + 1) → InitializationsReported s first n a p lent (word_put (first + i) number words) next q w (faulty + bool_byte (not (eqb number 0))) (i + 1)
  unfolding is_fault
  reported_next next q w number l row ordered after =
      let counts = sheet_counts s in let rows = at.asked.rows in
      let z : first ≡ (sheet_headers s).platforms.count = at.asked.first_row ∙ sym counts.platforms in
      let word : report_fault (sheet_headers s) (first + i) ≡ initialization_report (sheet_headers s) i = rw z (initialization_word (sheet_headers s) i (omega arith)) in
      record {
        asked = at.asked;
        at = rw (after, at.at, add_assoc);
        holds =
            kept_next (initialization_fault (sheet_headers s).arch (kept_platforms (sheet_headers s))) (sheet_headers s).initializations (HoldsRegions q) i _ refl
            (λ t. rw (row.skipped t) at.holds) row.taken;
        ordered = ordered;
        counted = rw (count_more i (faulty_at s), ← row.told, at.counted, byte_count (not (eqb number 0)));
        room = at.room;
        put =
            rw at.put (words_more first i number (report_word (sheet_headers s)) lent
            (row.told ∙ ap (λ (x : Fault). x.number) (sym word)));
      }

  pub reported_end : i ≡ n → (HoldsRegions r (kept_initializations (sheet_headers s)) × (faulty ≡ faulty_initializations (sheet_headers s)))
      × (words ≡ words_put (head_of s).platforms (head_of s).initializations (report_word (sheet_headers s)) lent)
  reported_end e =
      let z = e ∙ at.asked.rows ∙ sym (sheet_counts s).initializations in
      ((rw z at at.holds, rw z at at.counted), rw (at.asked.first_row, e ∙ at.asked.rows) at at.put)
