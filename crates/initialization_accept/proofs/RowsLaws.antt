-- The pass over the initialization rows: what holds at a turn of its loop, and that a row which it accepts leads to the next turn.
use Rattle.rows.{proofs.Kit.{◌≡◌, refl, sym, ◌∙◌, Bool, false, List, Option, none, some, ℕ, ◌+◌, ◌-◌, ◌*◌, ◌≤◌, ◌<◌, arith, length, take, drop, set, length-set}, specs.Below.any_below, specs.Rows.{Rows, any, before}, proofs.BelowLaws.any_more}
use Rattle.std.specs.Prelude as rust
use Rattle.std.specs.Prelude.{Some, None, MatchOption, ⊤}
use Rattle.igvm_defs.{specs.declared.Arch.Arch, specs.Refusals.is_fault, specs.Revision.is_x64}
use Rattle.sheet.{specs.declared.Cursor.Cursor, specs.Head.{head_of, bodies_at}, specs.Table.{row_kind, body_of}, specs.Walk.ReadTo, proofs.Readable.{body_length_lem, initialization_list_lem}}
use Rattle.sheet_reader.{specs.declared.SheetRow.SheetRow, specs.Reading.{read_at, cursor_after}, proofs.ReaderLaws.{row_found, room_row, body_found, read_after}}
use Rattle.platform_header.specs.declared.IgvmPlatformHeader.{IgvmPlatformHeader}
use Rattle.initialization_header.{specs.declared.IgvmInitializationHeader.IgvmInitializationHeader, specs.Initializations.initialization_of}
use Rattle.sheet_headers.{specs.Headers.sheet_headers, proofs.ListLaws.initialization_header}
use Rattle.rules.{specs.declared.Region.Region, specs.Regions.{region_of, region_passes, tables_share, overlap, regions_clash}, specs.Initializations.{without_cca, initialization_fault, own_initialization_fault}, specs.Verdict.initialization_faults, proofs.RegionLaws.clash_any, proofs.Acceptance.initialization_says}
use Rattle.reloc_regions.specs.Regions.{pushed, Lengths}
use Rattle.clashes.specs.Clashes.{any_tables_share, any_overlap}
use Rattle.by_start.{specs.{declared.KeptRegions.KeptRegions, ByStart.{Ordered, PlacedAt, More, linked}}}
use Rattle.initialization_check.{specs.Record.{HoldsRegions, HoldsRows}, proofs.RecordLaws.{holds_none, rows_none, holds_without, rows_without, holds_pushed, rows_pushed, ordered_behind, holds_clashes}}
use Rattle.initialization_row.specs.{declared.Row.Row, Row.{InOrder, region_in_row}}
use Rattle.platform_accept.specs.Accepted.{HoldsCca}
use Rattle.initialization_accept.specs.Accepted.{InitializationsAccepted, KeptBehind, RowKept}

-- ---- the rules

-- no earlier row's region clashes with that of a row, if it has one
no_clash : (clash : Region → Region → Bool) (earlier : Rows IgvmInitializationHeader) (h : IgvmInitializationHeader) (o : Option Region)
    → region_of h ≡ o → ((new : Region) → o ≡ some new → any (region_passes (clash new)) earlier ≡ false) → any (regions_clash clash h) earlier ≡ false
unfolding region_passes
no_clash clash earlier h o e apart = sym (clash_any clash earlier h) ∙ passes o e apart
  where
    passes : (p : Option Region) → region_of h ≡ p → ((new : Region) → p ≡ some new → any (region_passes (clash new)) earlier ≡ false)
        → region_passes (λ r. any (region_passes (clash r)) earlier) h ≡ false
    passes (some new) g a = rw g (a new refl)
    passes none g a = rw g

-- a row that is in order by itself, and whose region, if it has one, the record keeps, has no fault by the rules
faultless : {N M : ℕ} (arch : Arch) (platforms : Rows IgvmPlatformHeader) (earlier : Rows IgvmInitializationHeader) (h : IgvmInitializationHeader) (o : Option Region) (old kept : KeptRegions N M)
    (number : ℕ) → is_fault (own_initialization_fault arch h) ≡ false → without_cca platforms h ≡ none → region_of h ≡ o → HoldsRegions old.regions earlier → RowKept old o number kept
    → is_fault (initialization_fault arch platforms earlier h) ≡ false
faultless {N} {M} arch platforms earlier h o old kept number own cca region holds passed =
    (initialization_says arch platforms earlier h).1
    (own, cca, no_clash tables_share earlier h o region (λ new e. (apart o passed new e).0), no_clash overlap earlier h o region (λ new e. (apart o passed new e).1))
  where
    apart : (p : Option Region) → RowKept old p number kept → (new : Region) → p ≡ some new
        → (any (region_passes (tables_share new)) earlier ≡ false) × (any (region_passes (overlap new)) earlier ≡ false)
    apart none q new e = absurd (let no : ⊥ = cc in no)
    apart (some r) q new e =
        let is : r ≡ new = cc in let clashes = holds_clashes old.regions earlier holds in
        let z : (any (region_passes (tables_share r)) earlier ≡ false) × (any (region_passes (overlap r)) earlier ≡ false) =
        (sym (clashes.tables_share_lem r) ∙ q.apart.0, sym (clashes.overlaps r) ∙ q.apart.1) in
        rw is at z

-- a region pushed, with its row's number, and inserted
pub kept_behind : {N M : ℕ} (k q : KeptRegions N M) (new : Region) (number at from : ℕ) → k.regions.count < N → k.regions.count + 1 < M
    → Ordered k.order.next k.regions.gpa k.regions.size k.regions.count k.order → any_tables_share new k.regions.mask k.regions.page_table k.regions.count ≡ false
    → (any_overlap new k.regions.mask k.regions.gpa k.regions.size k.regions.count ≡ false) × PlacedAt k.order.next k.regions.gpa k.regions.count new.gpa at → from ≤ k.regions.count
    → q.regions ≡ pushed k.regions new → q.rows ≡ set k.rows k.regions.count number → q.order.next ≡ linked k.order.next at k.regions.count → More k.order from new.size k.regions.count q.order
    → Lengths q.regions × (length q.rows ≡ N) × (length q.order.next ≡ M) → KeptBehind k new number q
kept_behind k q new number at from room wide ordered shares (apart, placed) low regions rows next more (arrays, numbers, places) =
    record {
      apart = (shares, apart);
      regions = regions;
      rows = rows;
      lengths = (arrays, numbers);
      ordered = ordered_behind k.regions q.regions k.order q.order new at from room wide ordered placed low regions arrays next places more;
    }

-- ---- the loop

-- what holds of what is there
pub there : {A : Type 0} (o : rust.Option A) (P Q : A → Type 0) → MatchOption o ⊥ P → MatchOption o ⊤ Q → (a : A) × P a × Q a
there None P Q p q = absurd p
there (Some a) P Q p q = (a, p, q)

-- what is asked of the sheet, and of the record
pub record Asked (N M : ℕ) (s : List ℕ) (end : ℕ) (x64 : Bool) (cca : ℕ) : Type 0 where
  pub table : bodies_at (head_of s) ≤ length s
  pub last : end ≡ (head_of s).platforms + (head_of s).initializations
  pub platforms : (head_of s).platforms ≤ 16
  pub initializations : (head_of s).initializations ≤ 64
  pub arch : x64 ≡ is_x64 (sheet_headers s).arch
  pub bits : HoldsCca cca (sheet_headers s).platforms
  pub room : ((head_of s).initializations ≤ N) × ((head_of s).initializations < M)

-- at the head of the loop
pub record Reached {N M : ℕ} (s : List ℕ) (end : ℕ) (x64 : Bool) (cca : ℕ) (kept : KeptRegions N M) (c : Cursor) : Type 0 where
  pub asked : Asked N M s end x64 cca
  pub accepted : InitializationsAccepted s kept.regions kept.rows kept.order.next c
  pub ordered : Ordered kept.order.next kept.regions.gpa kept.regions.size kept.regions.count kept.order

-- no row passed
pub reached_none : {N M : ℕ} (s : List ℕ) (end : ℕ) (x64 : Bool) (cca : ℕ) (kept : KeptRegions N M) (c : Cursor) → Asked N M s end x64 cca → ReadTo s c → c.row ≡ (head_of s).platforms
    → kept.regions.count ≡ 0 → Ordered kept.order.next kept.regions.gpa kept.regions.size 0 kept.order → Reached s end x64 cca kept c
unfolding any_below
reached_none s end x64 cca kept c asked read first empty order =
    let i : c.row - (head_of s).platforms ≡ 0 = omega arith in let xs = (sheet_headers s).initializations in
    record {
      asked = asked;
      accepted =
          record {
            read = read;
            low = omega arith;
            high = omega arith;
            good = rw i;
            holds = rw i (holds_none kept.regions xs empty);
            rows = rw i (rows_none (head_of s).platforms kept.rows kept.regions xs empty);
            order = rw empty order.order;
          };
      ordered = rw empty order;
    }

-- a row's region kept, if it has one: the record answers for one row more
kept_next : {N M : ℕ} (first : ℕ) (old kept : KeptRegions N M) (xs : Rows IgvmInitializationHeader) (i : ℕ) (o : Option Region) → region_of (xs.row i) ≡ o → old.regions.count < N
    → RowKept old o (first + i + 1) kept → Ordered old.order.next old.regions.gpa old.regions.size old.regions.count old.order
    → HoldsRegions old.regions (before i xs) → HoldsRows first old.rows old.regions (before i xs)
    → HoldsRegions kept.regions (before (i + 1) xs) × HoldsRows first kept.rows kept.regions (before (i + 1) xs)
    × Ordered kept.order.next kept.regions.gpa kept.regions.size kept.regions.count kept.order
kept_next first old kept xs i none e room q ordered holds rows =
    (rw q (holds_without old.regions xs i e holds), rw q (rows_without first old.rows old.regions xs i e rows), rw q ordered)
kept_next {N} first old kept xs i (some new) e room q ordered holds rows =
    let ls = rw q.regions at q.lengths.0 in
    let n : old.regions.count < length old.rows = let z : length old.rows ≡ N = simp length-set at (rw q.rows at q.lengths.1) in omega arith in
    (rw q.regions (holds_pushed old.regions new ls room xs i e holds), rw (q.regions, q.rows) (rows_pushed old.regions new ls room first old.rows xs i holds rows n e), q.ordered)

module _ {N M : ℕ} {s : List ℕ} {end : ℕ} {x64 : Bool} {cca : ℕ} {kept : KeptRegions N M} {c : Cursor} (r : Reached s end x64 cca kept c) where
  -- at a row: the table has it, and there is room for its region
  pub row_known : c.row < end → (24 + 8 * c.row ≤ length s) × (c.at ≤ length s) × (c.row < 80) × (kept.regions.count < N) × (kept.regions.count < 64) × (kept.regions.count + 1 < M)
  row_known l =
      let a = r.asked in let p = r.accepted in let q = p.read.room in let h = p.holds.count in let t = a.table in let e = a.last in let m = a.room in
      omega arith

  -- the header of the row, by its kind and its body
  row_header : initialization_of (row_kind s c.row) (body_of s c.row) ≡ (sheet_headers s).initializations.row (c.row - (head_of s).platforms)
  row_header = let low = r.accepted.low in initialization_header s c.row (c.row - (head_of s).platforms) (omega arith)

  -- the row passed, where it is there, and in order by itself, and its region is kept
  pub reached_next : (row : SheetRow) (b : List ℕ) (found : Row) (q : KeptRegions N M) → c.row < end → Some row ≡ read_at s c.row c.at → b ≡ take row.length (drop c.at s)
      → InOrder (sheet_headers s).arch (sheet_headers s).platforms row.kind b found → RowKept kept (region_in_row found) (c.row + 1) q → Reached s end x64 cca q (cursor_after c row)
  reached_next row b found q l e part good passed =
      let p = r.accepted in let first = (head_of s).platforms in let last = r.asked.last in let low = p.low in let i = c.row - first in
      let xs = (sheet_headers s).initializations in
      let f = row_found s c.row c.at row e in
      let ok = rw (f.kind, part ∙ body_found s c p.read row f) at good in
      let region : region_of (xs.row i) ≡ region_in_row found = rw (← row_header) ok.region in
      let next_row : c.row + 1 - first ≡ i + 1 = omega arith in let number : c.row + 1 ≡ first + i + 1 = omega arith in
      let none_wrong : is_fault (initialization_faults (sheet_headers s) i) ≡ false =
      rw (← row_header) (faultless (sheet_headers s).arch (sheet_headers s).platforms (before i xs) (initialization_of (row_kind s c.row) (body_of s c.row)) (region_in_row found) kept q (c.row + 1)
      ok.own ok.cca ok.region p.holds passed) in
      let (holds, rows, ordered) = kept_next first kept q xs i (region_in_row found) region (row_known l).3 (rw number at passed) r.ordered p.holds p.rows in
      let room = room_row s c p.read row f in
      record {
        asked = r.asked;
        accepted =
            record {
              read =
                  read_after s c p.read row f (omega arith)
                  (record {
                    list = ok.list ∙ sym (initialization_list_lem (head_of s) c.row low (omega arith));
                    long = rw (body_length_lem s c.row room) at ok.long;
                    room = room;
                    codes = ok.codes;
                  });
              low = omega arith;
              high = omega arith;
              good = rw (next_row, any_more, p.good, none_wrong);
              holds = rw next_row holds;
              rows = rw next_row rows;
              order = ordered.order;
            };
        ordered = ordered;
      }
