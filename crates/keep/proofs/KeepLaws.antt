-- The loop over the initialization rows of a readable sheet: what holds at its head, and how a row's region leads to the next turn.
use Rattle.rows.{proofs.Kit.{◌≡◌, sym, ◌∙◌, List, none, some, ℕ, ◌+◌, ◌≤◌, ◌<◌, add-zero, add_assoc, arith, length, set, length-set}, specs.Rows.{Rows, before}}
use Rattle.igvm_defs.specs.Kinds.{initialization_list}
use Rattle.sheet.{specs.declared.Cursor.Cursor, specs.Head.{limits, head_of}, specs.Table.{row_kind, body_of}, specs.Read.Readable, specs.Walk.cursor_at, proofs.Readable.readable_bounds}
use Rattle.initialization_header.{specs.declared.IgvmInitializationHeader.IgvmInitializationHeader, specs.Initializations.initialization_of}
use Rattle.sheet_headers.{specs.Headers.sheet_headers, proofs.HeaderLaws.sheet_counts, proofs.ListLaws.{AtList, at_initialization, initialization_header}}
use Rattle.rules.{specs.declared.Region.Region, specs.Regions.region_of}
use Rattle.reloc_regions.specs.Regions.{pushed, Lengths}
use Rattle.by_start.{specs.declared.KeptRegions.KeptRegions, specs.ByStart.{ByStart, PlacedAt, linked}, proofs.OrderedLaws.{by_start_stored_linked, linked_long}}
use Rattle.initialization_check.{specs.Record.{HoldsRegions, HoldsRows}, proofs.RecordLaws.{holds_none, rows_none, holds_without, rows_without, holds_pushed, rows_pushed}}
use Rattle.keep.specs.Kept.{KeptOf}

-- ---- one row

-- a row with no region
pub kept_without : {N M : ℕ} (first : ℕ) (k : KeptRegions N M) (xs : Rows IgvmInitializationHeader) (i : ℕ) → region_of (xs.row i) ≡ none → KeptOf first k (before i xs)
    → KeptOf first k (before (i + 1) xs)
kept_without first k xs i e h =
    record {
      regions = holds_without k.regions xs i e h.regions;
      rows = rows_without first k.rows k.regions xs i e h.rows;
      order = h.order;
    }

-- a row whose region is kept behind the others
pub kept_behind : {N M : ℕ} (first : ℕ) (k q : KeptRegions N M) (xs : Rows IgvmInitializationHeader) (i at : ℕ) (new : Region) → k.regions.count < N → k.regions.count + 1 < M
    → region_of (xs.row i) ≡ some new → PlacedAt k.order.next k.regions.gpa k.regions.count new.gpa at
    → q.regions ≡ pushed k.regions new → q.rows ≡ set k.rows k.regions.count (first + i + 1) → q.order.next ≡ linked k.order.next at k.regions.count → Lengths q.regions × (length q.rows ≡ N) × (length q.order.next ≡ M)
    → KeptOf first k (before i xs) → KeptOf first q (before (i + 1) xs)
kept_behind {N} {M} first k q xs i at new room more e placed regions rows next (arrays, numbers, places) h =
    let ls = rw regions at arrays in
    let g : k.regions.count < length k.regions.gpa = rw (simp length-set at ls.gpa) room in
    let n : k.regions.count < length k.rows = let z : length k.rows ≡ N = simp length-set at (rw rows at numbers) in omega arith in
    let x : k.regions.count + 1 < length k.order.next = let z : length k.order.next ≡ M = rw linked_long at (rw next at places) in omega arith in
    record {
      regions = rw regions (holds_pushed k.regions new ls room xs i e h.regions);
      rows = rw (regions, rows) (rows_pushed k.regions new ls room first k.rows xs i h.regions h.rows n e);
      order = rw (regions, next) (by_start_stored_linked k.order.next k.regions.gpa k.regions.count new.gpa at h.order g placed x);
    }

-- ---- the loop

-- at the head of the loop: the cursor stands at row i of n initialization rows, which follow `first` others, and the record has the regions of the rows
-- before it, each with its row, and in order of start
pub record Reached {N M : ℕ} (s : List ℕ) (first n : ℕ) (kept : KeptRegions N M) (c : Cursor) (i : ℕ) : Type 0 where
  pub readable : Readable limits s
  pub first_row : first ≡ (head_of s).platforms
  pub rows : n ≡ (head_of s).initializations
  pub room : (n ≤ N) × (n < M)
  pub at : c ≡ cursor_at s (first + i)
  pub holds : KeptOf first kept (before i (sheet_headers s).initializations)

-- no row passed
pub reached_none : {N M : ℕ} (s : List ℕ) (first n : ℕ) (kept : KeptRegions N M) (c : Cursor) → Readable limits s → first ≡ (head_of s).platforms
    → n ≡ (head_of s).initializations → (n ≤ N) × (n < M) → c ≡ cursor_at s first → kept.regions.count ≡ 0 → ByStart kept.order.next kept.regions.gpa 0 → Reached s first n kept c 0
reached_none s first n kept c readable first_row rows room at empty order =
    record {
      readable = readable;
      first_row = first_row;
      rows = rows;
      room = room;
      at = rw add-zero at;
      holds =
          record {
            regions = holds_none kept.regions (sheet_headers s).initializations empty;
            rows = rows_none first kept.rows kept.regions (sheet_headers s).initializations empty;
            order = rw empty order;
          };
    }

module _ {N M : ℕ} {s : List ℕ} {first n : ℕ} {kept : KeptRegions N M} {c : Cursor} {i : ℕ} (r : Reached s first n kept c i) where
  pub row_known : i < n → AtList s initialization_list c
  row_known l = at_initialization s r.readable c i (rw r.first_row at r.at) (rw (← r.rows) l)

  -- there is room for the row's region, and the row's number is small
  pub row_room : i < n → (first + i < 80) × (kept.regions.count < 64) × (kept.regions.count < N) × (kept.regions.count + 1 < M)
  row_room l =
      let b = readable_bounds s r.readable in let e = r.rows in let d = r.first_row in let h = r.holds.regions.count in let m = r.room in
      omega arith

  -- the row's header
  pub row_header : (h : IgvmInitializationHeader) → h ≡ initialization_of (row_kind s c.row) (body_of s c.row) → h ≡ (sheet_headers s).initializations.row i
  row_header h e = e ∙ initialization_header s c.row i (rw (r.at, r.first_row))

  -- the row passed
  pub reached_next : (q : KeptRegions N M) (d : Cursor) → d ≡ cursor_at s (c.row + 1) → KeptOf first q (before (i + 1) (sheet_headers s).initializations) → Reached s first n q d (i + 1)
  reached_next q d after more =
      record {
        readable = r.readable;
        first_row = r.first_row;
        rows = r.rows;
        room = r.room;
        at = rw (after, r.at, add_assoc);
        holds = more;
      }

  -- every row passed
  pub reached_end : i ≡ n → HoldsRegions kept.regions (sheet_headers s).initializations × HoldsRows (head_of s).platforms kept.rows kept.regions (sheet_headers s).initializations
  reached_end e = let z = e ∙ r.rows ∙ sym (sheet_counts s).initializations in (rw z at r.holds.regions, rw (z, r.first_row) at r.holds.rows)
