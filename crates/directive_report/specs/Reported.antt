-- The directive rows kept so far, what is known of areas by them, and what is known after one row more.
use Rattle.std.specs.Prelude.{ℕ, ◌+◌, ◌*◌, ◌<◌, ◌≤◌, Bool, false, cond, not, List, ◌≡◌, eqb, length}
use Rattle.std.proofs.Math.Option.{Option, none, some}
use Rattle.rows.specs.Rows.{Rows}
use Rattle.le.specs.Le.{le_at}
use Rattle.sheet.specs.declared.Cursor.{Cursor}
use Rattle.sheet.specs.Head.{first_directive}
use Rattle.sheet.specs.Walk.{cursor_at}
use Rattle.directive_header.specs.declared.IgvmDirectiveHeader.{IgvmDirectiveHeader}
use Rattle.sheet_headers.specs.Headers.{sheet_headers}
use Rattle.rules.specs.Directives.{directive_fault}
use Rattle.rules.specs.Kept.{kept_below}
use Rattle.rules.specs.Report.{kept_initializations, directive_report, report_word}
use Rattle.rules.specs.Options.{passes}
use Rattle.directive_check.specs.declared.AreaName.{AreaName}
use Rattle.directive_check.specs.Record.{HoldsContexts, how, area_in}
use Rattle.area_table.specs.declared.AreaTable.{AreaTable}
use Rattle.area_table.specs.Table.{Knows}
use Rattle.directive_row.specs.Row.{state_of}

-- the rows kept of the first n directive rows
abbrev pub kept_to : List ℕ → ℕ → Rows IgvmDirectiveHeader
kept_to s n = kept_below (directive_fault (sheet_headers s).arch (kept_initializations (sheet_headers s))) (sheet_headers s).directives n

-- the lent bytes have the words of the first n directive rows
pub record WordsTo (s words : List ℕ) (n : ℕ) : Type 0 where
  pub room : 8 * (first_directive s + n) ≤ length words
  pub word : (j : ℕ) → j < n → le_at 8 words (8 * (first_directive s + j)) ≡ report_word (sheet_headers s) (first_directive s + j)

-- 32: a row that names an area in this way (0 allocates, 1 uses, 2 inserts, 3 names none) is bad where this is known of the area (0 nothing, 1 it is allocated, 2 it was inserted)
unfoldable pub bad_in : ℕ → ℕ → Bool
bad_in how state = cond (eqb how 3) false (cond (eqb how 0) (not (eqb state 0)) (not (eqb state 1)))

-- what is known of the area after such a row
unfoldable pub state_next : ℕ → ℕ → ℕ
state_next how state = cond (eqb how 0) 1 (cond (eqb how 2) 2 state)

-- what f says of the area that is named; nothing, where none is
abbrev pub said : (ℕ → ℕ) → Option ℕ → ℕ
said f none = 0
said f (some area) = f area

-- what is known of each area after a row that names one so: of its own what the way of naming it says, of any other what was known before
abbrev pub after_row : AreaName → (ℕ → ℕ) → ℕ → ℕ
after_row name f x = cond (passes (eqb x) (area_in name)) (state_next (how name) (f x)) (f x)

-- the word of directive row i, and what is known after it: contexts and areas of the rows kept
pub record RowReported {LINKS NODES : ℕ} (s : List ℕ) (i word : ℕ) (contexts : List ℕ) (next : Cursor) (areas : AreaTable LINKS NODES) : Type 0 where
  pub told : word ≡ (directive_report (sheet_headers s) i).number
  pub contexts_kept : HoldsContexts contexts (kept_to s (i + 1))
  pub areas_kept : Knows areas (state_of (kept_to s (i + 1)))
  pub after : next ≡ cursor_at s (first_directive s + i + 1)
