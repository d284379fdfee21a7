-- What holds of an upload whose opening and rows were not refused. Nothing here is needed to read what a desk answers.
use Rattle.std.specs.Prelude.{ℕ, ◌≤◌, ◌<◌}
use mathlib.Core.{Bool.{true, false}, Path.◌≡◌}
use Rattle.std.specs.Prelude.{length}
use Rattle.rows.specs.Rows.{Rows, count_of}
use Rattle.igvm_defs.specs.{Refusals.{is_fault, is_refusal}, Kinds.{platform_list, initialization_list, directive_list, kind_of, length_ok}}
use Rattle.sheet.specs.{Head.{Limits, within_limits}, Read.codes_ok}
use Rattle.rules.specs.Verdict.{platform_faults, initialization_faults, directive_faults}
use Rattle.sheet_of.specs.SheetOf.{Row}
use Rattle.uploads.specs.{Upload.{Upload, upload_head, upload_sheet, upload_headers, row_list}, Desk.{open_refusal, is_area}}

-- every row is of the list, as long as its kind allows, with codes in range
pub record OfList (list : ℕ) (r : Row) : Type 0 where
  pub of_list : row_list r ≡ list
  pub long : length_ok (kind_of r.kind) (length r.body) ≡ true
  pub codes : codes_ok r.kind r.body ≡ true

abbrev pub AllOfList : ℕ → Rows Row → Type 0
AllOfList list xs = (i : ℕ) → i < xs.count → OfList list (xs.row i)

pub record Taken (l : Limits) (u : Upload) : Type 0 where
  -- 2, 7
  pub opening : is_refusal (open_refusal u) ≡ false
  -- 3
  pub within : within_limits l (upload_head u) (length (upload_sheet u)) ≡ true
  -- 4, 5
  pub platforms : AllOfList platform_list u.rows.platforms
  pub initializations : AllOfList initialization_list u.rows.initializations
  pub directives : AllOfList directive_list u.rows.directives
  -- 8 to 14, 16 to 29, and 21, 22, 24, 30 to 33
  pub platform_rules : (i : ℕ) → i < u.rows.platforms.count → is_fault (platform_faults (upload_headers u) i) ≡ false
  pub initialization_rules : (i : ℕ) → i < u.rows.initializations.count → is_fault (initialization_faults (upload_headers u) i) ≡ false
  pub directive_rules : (i : ℕ) → i < u.rows.directives.count → is_fault (directive_faults (upload_headers u) i) ≡ false
  -- 40
  pub areas : count_of is_area u.rows.directives ≤ 1024
