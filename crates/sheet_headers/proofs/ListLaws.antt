-- Row i of a list of a readable sheet, and a pass over the n rows of a list, which follow `first` others.
use Rattle.rows.{proofs.Kit.{◌≡◌, refl, true, false, List, ℕ, ◌+◌, ◌≤◌, ◌<◌, add-zero, add_assoc, arith}, specs.Below.any_below, proofs.BelowLaws.any_more}
use Rattle.igvm_defs.{specs.declared.Fault.Fault, specs.Kinds.{kind_of, platform_list, initialization_list, directive_list}, specs.Refusals.{no_refusal, is_fault, in_row, first_fault}, proofs.RefusalLaws.{fault_stop, fault_end}}
use Rattle.sheet.{specs.declared.Cursor.Cursor, specs.Head.{limits, head_of, first_directive}, specs.Table.{row_kind, body_of}, specs.Read.Readable, specs.Walk.{cursor_at, AtRow}, proofs.Readable.{at_row, platform_row, initialization_row, directive_row}}
use Rattle.platform_header.specs.Platforms.{platform_of}
use Rattle.initialization_header.specs.Initializations.{initialization_of}
use Rattle.directive_header.specs.Directives.{directive_of}
use Rattle.sheet_headers.specs.Headers.{sheet_headers}

-- ---- row i of a list

-- the cursor stands at a row of a sheet, of a kind of the list
abbrev pub AtList : List ℕ → ℕ → Cursor → Type 0
AtList s list c = AtRow s c × ((kind_of (row_kind s c.row)).list ≡ list)

module _ (s : List ℕ) (ok : Readable limits s) (c : Cursor) (i : ℕ) where
  pub at_platform : c ≡ cursor_at s (0 + i) → i < (head_of s).platforms → AtList s platform_list c
  at_platform e l = rw e (at_row limits s ok (0 + i) (omega arith), platform_row limits s ok (0 + i) (omega arith))

  pub at_initialization : c ≡ cursor_at s ((head_of s).platforms + i) → i < (head_of s).initializations → AtList s initialization_list c
  at_initialization e l =
      rw e (at_row limits s ok ((head_of s).platforms + i) (omega arith), initialization_row limits s ok ((head_of s).platforms + i) (omega arith) (omega arith))

  pub at_directive : c ≡ cursor_at s (first_directive s + i) → i < (head_of s).directives → AtList s directive_list c
  at_directive e l =
      rw e (at_row limits s ok (first_directive s + i) (omega arith), directive_row limits s ok (first_directive s + i) (omega arith) (omega arith))

-- the header of row i of a list, which is row k of any byte string
module _ (s : List ℕ) (k i : ℕ) where
  pub platform_header : k ≡ 0 + i → platform_of (row_kind s k) (body_of s k) ≡ (sheet_headers s).platforms.row i
  unfolding sheet_headers
  platform_header e = rw e

  pub initialization_header : k ≡ (head_of s).platforms + i → initialization_of (row_kind s k) (body_of s k) ≡ (sheet_headers s).initializations.row i
  unfolding sheet_headers
  initialization_header e = rw e

  pub directive_header : k ≡ first_directive s + i → directive_of (row_kind s k) (body_of s k) ≡ (sheet_headers s).directives.row i
  unfolding sheet_headers
  directive_header e = rw e

-- ---- a pass over the rows of a list

-- the cursor stands at row i of n rows, which follow `first` others, and no row before row i has a fault
pub record RowsReached (s : List ℕ) (first n : ℕ) (f : ℕ → Fault) (c : Cursor) (i : ℕ) : Type 0 where
  pub below : i ≤ n
  pub at : c ≡ cursor_at s (first + i)
  pub passed : any_below i (λ j. is_fault (f j)) ≡ false

module _ (s : List ℕ) (first n : ℕ) (f : ℕ → Fault) where
  pub rows_first : (c : Cursor) → c ≡ cursor_at s first → RowsReached s first n f c 0
  unfolding any_below
  rows_first c e = record { below = omega arith; at = rw add-zero e; passed = refl }

  pub rows_next : (c next : Cursor) (i : ℕ) → RowsReached s first n f c i → i < n → is_fault (f i) ≡ false → next ≡ cursor_at s (c.row + 1)
      → RowsReached s first n f next (i + 1)
  rows_next c next i r l e q = record { below = omega arith; at = rw (q, r.at, add_assoc); passed = rw (any_more, r.passed, e) }

  pub rows_stop : (c : Cursor) (i : ℕ) → RowsReached s first n f c i → i < n → is_fault (f i) ≡ true → first_fault first n f ≡ in_row (first + i + 1) (f i)
  rows_stop c i r l t = fault_stop first n f i l r.passed t

  pub rows_end : (c : Cursor) (i : ℕ) → RowsReached s first n f c i → n ≤ i → (i ≡ n) × (first_fault first n f ≡ no_refusal)
  rows_end c i r l = let b = r.below in let e : i ≡ n = omega arith in (e, fault_end first n f (rw e at r.passed))
