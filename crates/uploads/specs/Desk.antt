-- What a desk answers to an opening, a row and a closing, by the history alone: the rows that it has taken since it was opened. No word here is about the record that it keeps.
use Rattle.std.specs.Prelude.{ℕ, ◌+◌, Bool, cond, not, ◌&&◌, ◌||◌, List, [], ◌∷◌, eqb, leb, ltb, length}
use Rattle.rows.specs.Rows.{Rows, count_of}
use Rattle.igvm_defs.specs.{declared.Fault.Fault, declared.Refusal.Refusal, Refusals.{refusal, no_refusal, fault, no_fault, refuse, is_refusal, in_row, or_else}, Kinds.{platform_list, initialization_list, directive_list, kind_of, length_ok}}
use Rattle.sheet.specs.{declared.SheetHead.SheetHead, Head.{Limits, row_count, layout_ok, within_limits, page_size_fault}, Read.codes_ok}
use Rattle.platform_header.specs.Platforms.{platform_of}
use Rattle.initialization_header.specs.Initializations.{initialization_of}
use Rattle.directive_header.specs.Directives.{directive_of}
use Rattle.rules.specs.{Headers.Headers, Platforms.platform_fault, Initializations.initialization_fault, Directives.directive_fault}
use Rattle.answers.specs.{declared.Verdict.Verdict, Verdict.{verdict_refusal, verdict_of}}
use Rattle.sheet_of.specs.SheetOf.{Row}
use Rattle.uploads.specs.Upload.{Upload, upload_head, upload_sheet, upload_headers, opened, row_list, with_row}

-- ---- opening: 2, then 7 with the page size

unfoldable pub open_refusal : Upload → Refusal
open_refusal u =
    or_else (in_row 0 (refuse (not (layout_ok (upload_head u))) (fault 2 0) no_fault))
    (in_row 0 (page_size_fault (upload_head u)))

-- ---- a row r, after the rows of u were taken

-- its number, from 1, over all lists
abbrev pub next_row : Upload → ℕ
next_row u = row_count (upload_head u) + 1

-- 4: a kind of no list
unfoldable pub of_no_list : Row → Bool
of_no_list r = eqb (row_list r) 0

-- 39: a row of a list already left: a row of a later list was taken
unfoldable pub of_list_left : Upload → Row → Bool
of_list_left u r =
    ltb (row_list r) initialization_list && ltb 0 u.rows.initializations.count
    || ltb (row_list r) directive_list && ltb 0 u.rows.directives.count

-- 3: rows or bytes of the sheet so far, this row counted in, over a limit
unfoldable pub over_limit : Limits → Upload → Row → Bool
over_limit l u r = not (within_limits l (upload_head (with_row u r)) (length (upload_sheet (with_row u r))))

-- 5: length, then codes
unfoldable pub bad_body : Row → Bool
bad_body r = not (length_ok (kind_of r.kind) (length r.body) && codes_ok r.kind r.body)

-- 15: a row past the platforms, and there is none
unfoldable pub before_platforms : Upload → Row → Bool
before_platforms u r = not (eqb (row_list r) platform_list) && eqb u.rows.platforms.count 0

-- the rules of its list, given the headers before it: 8 to 14, 16 to 29, or 21, 22, 24 and 30 to 33
unfoldable pub list_fault : Headers → Row → Fault
list_fault f r =
    cond (eqb (row_list r) platform_list) (platform_fault f.arch f.platforms (platform_of r.kind r.body))
    (cond (eqb (row_list r) initialization_list) (initialization_fault f.arch f.platforms f.initializations (initialization_of r.kind r.body))
    (directive_fault f.arch f.initializations f.directives (directive_of r.kind r.body)))

-- a ParameterArea
abbrev pub is_area : Row → Bool
is_area r = eqb r.kind 33

-- 40: more than 1,024 parameter areas, inserted ones too
unfoldable pub too_many_areas : Upload → Row → Bool
too_many_areas u r = is_area r && leb 1024 (count_of is_area u.rows.directives)

-- 4, 39, 3, 5, 15, the rules of its list, 40; each with the row that it names
unfoldable pub row_refusal : Limits → Upload → Row → Refusal
row_refusal l u r =
    or_else (in_row (next_row u) (refuse (of_no_list r) (fault 4 0) no_fault))
    (or_else (in_row 0 (refuse (of_list_left u r) (fault 39 0) no_fault))
    (or_else (in_row 0 (refuse (over_limit l u r) (fault 3 0) no_fault))
    (or_else (in_row (next_row u) (refuse (bad_body r) (fault 5 0) no_fault))
    (or_else (in_row 0 (refuse (before_platforms u r) (fault 15 0) no_fault))
    (or_else (in_row (next_row u) (list_fault (upload_headers u) r))
    (in_row 0 (refuse (too_many_areas u r) (fault 40 0) no_fault)))))))

-- ---- closing: the verdict of the sheet made of the rows

abbrev pub close_refusal : Limits → Upload → Refusal
close_refusal l u = verdict_refusal l (upload_sheet u)

-- ---- what a desk has come to

pub data Status : Type 0 where
  -- never opened
  Empty : Status
  -- opened, and these rows taken
  Open : Upload → Status
  -- closed after them, and accepted
  Closed : Upload → Status
  -- stopped by a refusal
  Stopped : Refusal → Status

-- stopped, where there is a refusal
abbrev pub unless : Refusal → Status → Status
unless r s = cond (is_refusal r) (Stopped r) s

-- an opening begins anew, whatever came before it; a refused one leaves the desk stopped with its refusal
abbrev pub after_open : ℕ → ℕ → ℕ → Status
after_open revision arch size = unless (open_refusal (opened revision arch size)) (Open (opened revision arch size))

-- a row is taken, or stops the desk; a desk that is not open does not look at it
abbrev pub after_row : Limits → Status → Row → Status
after_row l Empty r = Empty
after_row l (Open u) r = unless (row_refusal l u r) (Open (with_row u r))
after_row l (Closed u) r = Closed u
after_row l (Stopped q) r = Stopped q

abbrev pub after_close : Limits → Status → Status
after_close l Empty = Empty
after_close l (Open u) = unless (close_refusal l u) (Closed u)
after_close l (Closed u) = Closed u
after_close l (Stopped q) = Stopped q

-- ---- what it says there

-- 2 where it was never opened; its refusal where it is stopped, until it is opened again
abbrev pub told : Status → Refusal
told Empty = refusal 2 0 0
told (Open u) = no_refusal
told (Closed u) = no_refusal
told (Stopped q) = q

-- 0 number, 1 row, 2 detail
abbrev pub refusal_numbers : Refusal → List ℕ
refusal_numbers q = q.number ∷ q.row ∷ q.detail ∷ []

abbrev pub refused : Refusal → Verdict
refused q = record { refusal = q; platforms = 0; initializations = 0; directives = 0 }

-- what closing answers: the verdict of the sheet, with its counts where it is accepted, or the refusal that stands
abbrev pub closing : Limits → Status → Verdict
closing l Empty = refused (told Empty)
closing l (Open u) = verdict_of l (upload_sheet u)
closing l (Closed u) = verdict_of l (upload_sheet u)
closing l (Stopped q) = refused q
