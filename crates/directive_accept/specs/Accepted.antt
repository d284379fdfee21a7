-- How far the directive rows of a byte string are in order, and what the rows passed tell.
use Rattle.std.specs.Prelude.{ℕ, ◌-◌, ◌≤◌, false, List, ◌≡◌, length}
use Rattle.rows.specs.Below.{any_below}
use Rattle.rows.specs.Rows.{before}
use Rattle.igvm_defs.specs.Refusals.{is_fault}
use Rattle.sheet.specs.declared.Cursor.{Cursor}
use Rattle.sheet.specs.Head.{first_directive}
use Rattle.sheet.specs.Walk.{ReadTo}
use Rattle.sheet_headers.specs.Headers.{sheet_headers}
use Rattle.rules.specs.Verdict.{directive_faults}
use Rattle.directive_check.specs.Record.{HoldsContexts}
use Rattle.area_table.specs.declared.AreaTable.{AreaTable}
use Rattle.area_table.specs.Table.{Knows}
use Rattle.directive_row.specs.Row.{state_of}

-- no directive row before the cursor's has a fault, of reading or by the rules, and the masks are those of the contexts among these rows
pub record DirectivesAccepted (s : List ℕ) (c : Cursor) (contexts : List ℕ) : Type 0 where
  pub read : ReadTo s c
  pub low : first_directive s ≤ c.row
  pub good : any_below (c.row - first_directive s) (λ i. is_fault (directive_faults (sheet_headers s) i)) ≡ false
  pub holds : HoldsContexts contexts (before (c.row - first_directive s) (sheet_headers s).directives)

-- what the directive rows before row k of the sheet tell of an area
abbrev pub state_before : List ℕ → ℕ → ℕ → ℕ
state_before s k = state_of (before (k - first_directive s) (sheet_headers s).directives)

-- from one cursor to a later one: the rows between are in order, and change nothing in what is known of contexts and areas
pub record Onward (s : List ℕ) (c d : Cursor) : Type 0 where
  pub low : c.row ≤ d.row
  pub first : first_directive s ≤ d.row
  pub read : ReadTo s d
  pub accepted : (contexts : List ℕ) → DirectivesAccepted s c contexts → DirectivesAccepted s d contexts
  pub areas : (area : ℕ) → state_before s d.row area ≡ state_before s c.row area

-- from one cursor to a later one, past rows that name no area: what is known of areas is as it was, and the masks have the contexts between
pub record PlainPassed (s : List ℕ) (c d : Cursor) (next : List ℕ) : Type 0 where
  pub low : c.row ≤ d.row
  pub rows : DirectivesAccepted s d next
  pub areas : (area : ℕ) → state_before s d.row area ≡ state_before s c.row area
  pub masks : length next ≡ 3

-- from one cursor to a later one, past rows that name an area: the masks are as they were, and the table of areas has what the rows so far tell
pub record AreasPassed (s : List ℕ) (c d : Cursor) {LINKS NODES : ℕ} (t : AreaTable LINKS NODES) : Type 0 where
  pub low : c.row ≤ d.row
  pub first : first_directive s ≤ d.row
  pub read : ReadTo s d
  pub accepted : (contexts : List ℕ) → DirectivesAccepted s c contexts → DirectivesAccepted s d contexts
  pub known : Knows t (state_before s d.row)

-- no directive row before the cursor's has a fault, and none names an area
pub record PlainAccepted (s : List ℕ) (c : Cursor) (contexts : List ℕ) : Type 0 where
  pub rows : DirectivesAccepted s c contexts
  pub areas : (area : ℕ) → state_before s c.row area ≡ 0
  pub masks : length contexts ≡ 3

-- no directive row before the cursor's has a fault, and the table of areas has what these rows tell
pub record NamedAccepted (s : List ℕ) (c : Cursor) (contexts : List ℕ) {LINKS NODES : ℕ} (t : AreaTable LINKS NODES) : Type 0 where
  pub rows : DirectivesAccepted s c contexts
  pub known : Knows t (state_before s c.row)
  pub masks : length contexts ≡ 3
