-- A loop over the initialization rows of a readable sheet: what a turn of it knows, and where it ends.
use Rattle.rows.{proofs.Kit.{◌≡◌, true, List, ℕ, ◌+◌, ◌<◌, ◌≤◌, add_assoc, arith, length}, specs.Rows.before}
use Rattle.igvm_defs.specs.Kinds.{initialization_list, kind_of}
use Rattle.sheet.{specs.declared.Cursor.Cursor, specs.declared.SheetHead.SheetHead, specs.Head.{limits, head_of}, specs.Table.{row_kind, body_of}, specs.Read.{codes_ok, Readable}, specs.Walk.cursor_at, proofs.Readable.{readable_bounds, readable_row, body_least}}
use Rattle.initialization_header.specs.Initializations.{initialization_of}
use Rattle.sheet_headers.{specs.Headers.sheet_headers, proofs.HeaderLaws.sheet_counts, proofs.ListLaws.{AtList, at_initialization, initialization_header}}
use Rattle.answers.specs.Relocations.{sheet_initializations}

-- the cursor stands at initialization row i
pub record Turn (s : List ℕ) (c : Cursor) (i : ℕ) : Type 0 where
  pub listed : AtList s initialization_list c
  pub least : (kind_of (row_kind s c.row)).least ≤ length (body_of s c.row)
  pub codes : codes_ok (row_kind s c.row) (body_of s c.row) ≡ true
  pub header : initialization_of (row_kind s c.row) (body_of s c.row) ≡ (sheet_initializations s).row i
  pub next : cursor_at s (c.row + 1) ≡ cursor_at s ((head_of s).platforms + (i + 1))
  pub within : i < (sheet_initializations s).count
  pub few : i < 64

module _ (s : List ℕ) (head : SheetHead) (e : head ≡ head_of s) where
  pub turn_at : Readable limits s → (c : Cursor) (i : ℕ) → c ≡ cursor_at s ((head_of s).platforms + i) → i < head.initializations → Turn s c i
  turn_at ok c i p l =
      let h : i < (head_of s).initializations = rw (← e) l in let b = readable_bounds s ok in let listed = at_initialization s ok c i p h in
      record {
        listed = listed;
        least = body_least s c listed.0;
        codes = rw p (readable_row limits s ok ((head_of s).platforms + i) (omega arith)).codes;
        header = initialization_header s c.row i (rw p);
        next = rw (p, add_assoc);
        within = rw (sheet_counts s).initializations h;
        few = omega arith;
      }

  -- the end
  pub all_rows_lem : (i : ℕ) → i ≡ head.initializations → before i (sheet_initializations s) ≡ sheet_initializations s
  unfolding sheet_headers
  all_rows_lem i h = rw (h, e)
