-- Request 14's premise, on bytes. From an accepted sheet initialization rows and directive rows are dropped; all VBS contexts remain, and each ParameterArea that a
-- remaining row names. Which rows remain is a choice for each of the two lists, by index from 0; the trimmed sheet is the sheet made of the remaining rows, in their order.
use Rattle.std.specs.Prelude.{ℕ, ◌+◌, ◌<◌, Bool, true, ◌||◌, List, ◌≡◌, eqb}
use Rattle.std.proofs.Math.Option.{Option, some}
use Rattle.rows.specs.Lists.{remaining}
use Rattle.sheet.specs.Head.{Limits, head_of, first_directive}
use Rattle.sheet.specs.Table.{row_kind, body_of}
use Rattle.directive_header.specs.Fields.{area_named}
use Rattle.sheet_of.specs.Lists.{RowLists, lists_sheet, sheet_rows}
use Rattle.order.specs.Demand.{Accepted}

-- which rows remain; all platform rows do
pub record Remain : Type 0 where
  pub initializations : ℕ → Bool
  pub directives : ℕ → Bool

abbrev pub remaining_rows : Remain → RowLists → RowLists
remaining_rows remain x =
    record {
      platforms = x.platforms;
      initializations = remaining remain.initializations x.initializations;
      directives = remaining remain.directives x.directives;
    }

unfoldable pub trimmed_sheet : Remain → List ℕ → List ℕ
trimmed_sheet remain s = lists_sheet (head_of s) (remaining_rows remain (sheet_rows s))

-- ---- what must remain

-- the kind of directive row j
abbrev pub directive_kind : List ℕ → ℕ → ℕ
directive_kind s j = row_kind s (first_directive s + j)

-- the area that it names: kinds 33 to 43 and 50
abbrev pub directive_area : List ℕ → ℕ → Option ℕ
directive_area s j = area_named (directive_kind s j) (body_of s (first_directive s + j))

-- a VBS context
abbrev pub is_vbs_context : ℕ → Bool
is_vbs_context kind = eqb kind 47 || eqb kind 48

-- all VBS contexts remain
abbrev pub ContextsRemain : Remain → List ℕ → Type 0
ContextsRemain remain s = (j : ℕ) → j < (head_of s).directives → is_vbs_context (directive_kind s j) ≡ true → remain.directives j ≡ true

-- each ParameterArea (33) that a remaining row names remains
abbrev pub AreasRemain : Remain → List ℕ → Type 0
AreasRemain remain s =
    (i area : ℕ) → i < (head_of s).directives → remain.directives i ≡ true → directive_area s i ≡ some area
    → (j : ℕ) → j < (head_of s).directives → directive_kind s j ≡ 33 → directive_area s j ≡ some area → remain.directives j ≡ true

pub record Trimmable (l : Limits) (remain : Remain) (s : List ℕ) : Type 0 where
  pub accepted : Accepted l s
  pub contexts : ContextsRemain remain s
  pub areas : AreasRemain remain s
