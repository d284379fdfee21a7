-- Laws of the passes over the platform rows: what holds at a turn of the loop, and what it says at the end.
use mir.Val.{bool_byte}
use Rattle.std.specs.Prelude.{Result, Ok, Err, MatchResult}
use Rattle.std.specs.Result.{is_ok}
use Rattle.rows.{proofs.Kit.{◌≡◌, refl, sym, ap, ◌∙◌, Bool, true, false, not, false≢true, List, ◌⊎◌, inl, inr, ℕ, ◌+◌, ◌*◌, ◌≤◌, ◌<◌, add-one, zero-add, add_assoc, arith, eqb, eqb-true, length}, proofs.Bools.{which, not_both, byte_count}, specs.Below.{sum_below, count_below}, specs.Rows.{Rows, before, more}, proofs.BelowLaws.{count_more, count_le}}
use Rattle.igvm_defs.{specs.declared.Arch.Arch, specs.declared.Fault.Fault, specs.declared.Refusal.Refusal, specs.Kinds.platform_list, specs.Refusals.{fault, no_fault, no_refusal, refuse, is_fault, is_refusal, in_row, first_fault}, proofs.RefusalLaws.{row_refusal_lem, none_else, or_else_first}}
use Rattle.lent.{specs.Lent.{word_put, words_put}, proofs.LentLaws.{words_none, words_more, words_length}}
use Rattle.sheet.{specs.declared.Cursor.Cursor, specs.Head.{limits, head_of}, specs.Table.{row_kind, body_of}, specs.Read.Readable, specs.Walk.cursor_at, proofs.Readable.readable_bounds}
use Rattle.platform_header.{specs.declared.IgvmPlatformHeader.IgvmPlatformHeader, specs.Platforms.platform_of}
use Rattle.sheet_headers.{specs.Headers.sheet_headers, proofs.HeaderLaws.sheet_counts, proofs.ListLaws.{AtList, at_platform, platform_header, RowsReached, rows_next, rows_stop, rows_end}}
use Rattle.rules.{specs.Platforms.platform_fault, specs.Verdict.{platform_faults, no_platform, platforms_refusal}, specs.Kept.kept_below, specs.Report.{platform_report, kept_platforms, faulty_platforms, report_word}, proofs.{KeptLaws.{kept_count, kept_next}, ReportLaws.platform_word}}
use Rattle.platform_check.{specs.declared.Platforms.Platforms, specs.Record.HoldsPlatforms, proofs.RecordLaws.holds_next}

-- what holds where an answer is Ok
pub where_ok : {T E : Type 0} (r : Result T E) (P : T → Type 0) (Q : E → Type 0) → true ≡ is_ok r → MatchResult r P Q → (x : T) × P x
where_ok (Ok x) P Q e h = (x, h)
where_ok (Err f) P Q e h = absurd (let no : ⊥ = cc in no)

-- ---- the verdict

-- at row i of n: no row before it has a fault, and the record holds them
pub record PlatformsReached (s : List ℕ) (n : ℕ) (a : Arch) (c : Cursor) (p : Platforms) (i : ℕ) : Type 0 where
  pub readable : Readable limits s
  pub rows : n ≡ (head_of s).platforms
  pub arch : a ≡ (sheet_headers s).arch
  pub reached : RowsReached s 0 n (platform_faults (sheet_headers s)) c i
  pub holds : HoldsPlatforms p (before i (sheet_headers s).platforms)

module _ {s : List ℕ} {n : ℕ} {a : Arch} {c : Cursor} {p : Platforms} {i : ℕ} (r : PlatformsReached s n a c p i) where
  pub platform_known : i < n → AtList s platform_list c
  platform_known l = at_platform s r.readable c i r.reached.at (rw (← r.rows) l)

  pub platform_room : i < n → p.count < 16
  platform_room l = let b = readable_bounds s r.readable in let e = r.rows in let h = r.holds.count in omega arith

  -- the header at the cursor is row i's, and its fault is that of row i
  pub platform_row : (h : IgvmPlatformHeader) → h ≡ platform_of (row_kind s c.row) (body_of s c.row) → h ≡ (sheet_headers s).platforms.row i
  platform_row h e = e ∙ platform_header s c.row i (rw r.reached.at)

  pub platform_faults_at : (h : IgvmPlatformHeader) → h ≡ platform_of (row_kind s c.row) (body_of s c.row)
      → platform_fault a (before i (sheet_headers s).platforms) h ≡ platform_faults (sheet_headers s) i
  platform_faults_at h e = rw (r.arch, platform_row h e)

  -- row i has no fault
  pub platforms_next : (h : IgvmPlatformHeader) (next : Cursor) (q : Platforms) → h ≡ platform_of (row_kind s c.row) (body_of s c.row) → i < n
      → platform_fault a (before i (sheet_headers s).platforms) h ≡ no_fault → HoldsPlatforms q (more (before i (sheet_headers s).platforms) h) → next ≡ cursor_at s (c.row + 1)
      → PlatformsReached s n a next q (i + 1)
  unfolding is_fault
  platforms_next h next q e l none held at =
      let xs = (sheet_headers s).platforms in
      record {
        readable = r.readable;
        rows = r.rows;
        arch = r.arch;
        reached = rows_next s 0 n (platform_faults (sheet_headers s)) c next i r.reached l (rw (← platform_faults_at h e, none)) at;
        holds = holds_next q xs i h (platform_row h e) held;
      }

  -- row i has one
  pub platforms_stop : (h : IgvmPlatformHeader) (t : Refusal) → h ≡ platform_of (row_kind s c.row) (body_of s c.row) → i < n
      → t ≡ in_row (i + 1) (platform_fault a (before i (sheet_headers s).platforms) h) → is_fault (platform_fault a (before i (sheet_headers s).platforms) h) ≡ true
      → (t ≡ first_fault 0 (head_of s).platforms (platform_faults (sheet_headers s))) × (is_refusal (first_fault 0 (head_of s).platforms (platform_faults (sheet_headers s))) ≡ true)
  platforms_stop h t e l is fault =
      let at = platform_faults_at h e in
      let refuses : is_refusal t ≡ true = rw (is, row_refusal_lem) fault in
      let same : first_fault 0 (head_of s).platforms (platform_faults (sheet_headers s)) ≡ t =
      rw (← r.rows, rows_stop s 0 n (platform_faults (sheet_headers s)) c i r.reached l (rw at at fault), zero-add, ← at, ← is) refl in
      (sym same, rw same refuses)

  -- every row passed
  pub platforms_end : n ≤ i → (first_fault 0 (head_of s).platforms (platform_faults (sheet_headers s)) ≡ no_refusal) × HoldsPlatforms p (sheet_headers s).platforms
  platforms_end l =
      let (e, none) = rows_end s 0 n (platform_faults (sheet_headers s)) c i r.reached l in
      (rw (← r.rows, none) refl, rw (e ∙ r.rows ∙ sym (sheet_counts s).platforms) at r.holds)

-- the rows' first fault comes before 15
pub platforms_first : (s : List ℕ) → is_refusal (first_fault 0 (head_of s).platforms (platform_faults (sheet_headers s))) ≡ true
    → platforms_refusal (sheet_headers s) ≡ first_fault 0 (head_of s).platforms (platform_faults (sheet_headers s))
unfolding platforms_refusal
platforms_first s refuses = rw (sheet_counts s).platforms (or_else_first _ _ refuses)

-- where no row has a fault 15 is left
pub platforms_last : (s : List ℕ) → first_fault 0 (head_of s).platforms (platform_faults (sheet_headers s)) ≡ no_refusal
    → platforms_refusal (sheet_headers s) ≡ in_row 0 (refuse (eqb (head_of s).platforms 0) (fault 15 0) no_fault)
unfolding platforms_refusal no_platform
platforms_last s none = rw ((sheet_counts s).platforms, none, none_else) refl

-- ---- the report

-- the rows kept of the first n
abbrev kept_to : List ℕ → ℕ → Rows IgvmPlatformHeader
kept_to s n = kept_below (platform_fault (sheet_headers s).arch) (sheet_headers s).platforms n

-- row j is faulty, judged after the rows kept before it
abbrev faulty_at : List ℕ → ℕ → Bool
faulty_at s j = is_fault (platform_report (sheet_headers s) j)

-- at row i of n: the record holds the rows kept before it
pub record PlatformsReported (s : List ℕ) (n : ℕ) (a : Arch) (lent words : List ℕ) (c : Cursor) (p : Platforms) (faulty i : ℕ) : Type 0 where
  pub readable : Readable limits s
  pub rows : n ≡ (head_of s).platforms
  pub arch : a ≡ (sheet_headers s).arch
  pub at : c ≡ cursor_at s (0 + i)
  pub holds : HoldsPlatforms p (kept_to s i)
  pub counted : faulty ≡ count_below i (faulty_at s)
  pub room : 8 * n ≤ length lent
  pub put : words ≡ words_put 0 i (report_word (sheet_headers s)) lent

-- what the record and the word of row i are behind it: a faulty row leaves no trace in the record
pub record RowReported (s : List ℕ) (i : ℕ) (p q : Platforms) (number : ℕ) : Type 0 where
  pub told : number ≡ (platform_report (sheet_headers s) i).number
  pub skipped : faulty_at s i ≡ true → q ≡ p
  pub taken : faulty_at s i ≡ false → HoldsPlatforms q (more (kept_to s i) ((sheet_headers s).platforms.row i))

-- before the first row nothing is kept, nothing is faulty, and no word is put
pub reported_none : (s : List ℕ) (n : ℕ) (a : Arch) (lent : List ℕ) (c : Cursor) (p : Platforms) → Readable limits s → n ≡ (head_of s).platforms → a ≡ (sheet_headers s).arch
    → 8 * n ≤ length lent → c ≡ cursor_at s 0 → HoldsPlatforms p (before 0 (sheet_headers s).platforms) → PlatformsReported s n a lent lent c p 0 0
unfolding kept_below sum_below
reported_none s n a lent c p ok rows arch room at held =
    record { readable = ok; rows = rows; arch = arch; at = at; holds = held; counted = refl; room = room; put = sym (words_none 0 _ lent) }

module _ {s : List ℕ} {n : ℕ} {a : Arch} {lent words : List ℕ} {c : Cursor} {p : Platforms} {faulty i : ℕ} (r : PlatformsReported s n a lent words c p faulty i) where
  pub reported_known : i < n → AtList s platform_list c
  reported_known l = at_platform s r.readable c i r.at (rw (← r.rows) l)

  pub reported_room : i < n → (p.count < 16) × (faulty < 16)
  reported_room l =
      let b = readable_bounds s r.readable in let e = r.rows in let h = r.holds.count in let k = kept_count (platform_fault (sheet_headers s).arch) (sheet_headers s).platforms i in
      let q = r.counted in let f = count_le i (faulty_at s) in
      (omega arith, omega arith)

  -- the lent bytes are as many as they were
  pub reported_length : length words ≡ length lent
  reported_length = rw (r.put, words_length)

  -- the header at the cursor is row i's
  reported_row : (h : IgvmPlatformHeader) → h ≡ platform_of (row_kind s c.row) (body_of s c.row) → h ≡ (sheet_headers s).platforms.row i
  reported_row h e = e ∙ platform_header s c.row i (rw r.at)

  reported_fault : (h : IgvmPlatformHeader) → h ≡ platform_of (row_kind s c.row) (body_of s c.row) → platform_fault a (kept_to s i) h ≡ platform_report (sheet_headers s) i
  reported_fault h e = rw (r.arch, reported_row h e)

  pub reported_taken : (h : IgvmPlatformHeader) (q : Platforms) → h ≡ platform_of (row_kind s c.row) (body_of s c.row)
      → platform_fault a (kept_to s i) h ≡ no_fault → HoldsPlatforms q (more (kept_to s i) h) → RowReported s i p q 0
  unfolding is_fault
  reported_taken h q e none held =
      let f : platform_report (sheet_headers s) i ≡ no_fault = sym (reported_fault h e) ∙ none in
      record { told = rw f; skipped = λ t. absurd (false≢true (rw f at t)); taken = λ _. rw (← reported_row h e) held }

  pub reported_skipped : (h : IgvmPlatformHeader) (f : Fault) (q : Platforms) → h ≡ platform_of (row_kind s c.row) (body_of s c.row)
      → f ≡ platform_fault a (kept_to s i) h → is_fault (platform_fault a (kept_to s i) h) ≡ true → q ≡ p → RowReported s i p q f.number
  reported_skipped h f q e told t same =
      let z = reported_fault h e in
      record { told = ap (λ (x : Fault). x.number) (told ∙ z); skipped = λ _. same; taken = λ n. not_both n (rw z at t) }

  pub reported_next : (next : Cursor) (q : Platforms) (number : ℕ) → i < n → RowReported s i p q number → next ≡ cursor_at s (c.row + 1)
      → PlatformsReported s n a lent (word_put i number words) next q (faulty + bool_byte (not (eqb number 0))) (i + 1)
  unfolding is_fault
  reported_next next q number l row at =
      let counts = sheet_counts s in let rows = r.rows in
      record {
        readable = r.readable;
        rows = r.rows;
        arch = r.arch;
        at = rw (at, r.at, add_assoc);
        holds = kept_next (platform_fault (sheet_headers s).arch) (sheet_headers s).platforms (HoldsPlatforms q) i _ refl (λ t. rw (row.skipped t) r.holds) row.taken;
        counted = rw (count_more i (faulty_at s), ← row.told, r.counted, byte_count (not (eqb number 0)));
        room = r.room;
        put = rw r.put (rw zero-add at (words_more 0 i number (report_word (sheet_headers s)) lent (rw zero-add (row.told ∙ ap (λ (x : Fault). x.number) (sym (platform_word (sheet_headers s) i (omega arith)))))));
      }

pub reported_end : {s : List ℕ} {n : ℕ} {a : Arch} {lent words : List ℕ} {c : Cursor} {p : Platforms} {faulty i : ℕ} → PlatformsReported s n a lent words c p faulty i → i ≡ n
    → (HoldsPlatforms p (kept_platforms (sheet_headers s)) × (faulty ≡ faulty_platforms (sheet_headers s))) × (words ≡ words_put 0 (head_of s).platforms (report_word (sheet_headers s)) lent)
reported_end {s} r e =
    let z = e ∙ r.rows ∙ sym (sheet_counts s).platforms in
    ((rw z at r.holds, rw z at r.counted), rw (e ∙ r.rows) at r.put)
