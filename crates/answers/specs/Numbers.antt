-- The numbers of an answer, in the order in which a call across the C linkage names them.
use Rattle.std.specs.Prelude.{ℕ, cond, List, [], ◌∷◌, get_or}
use Rattle.answers.specs.declared.Verdict.{Verdict}
use Rattle.answers.specs.declared.Report.{Report}
use Rattle.answers.specs.declared.Relocations.{Relocations}
use Rattle.answers.specs.declared.Answered.{Answered}
use Rattle.answers.specs.declared.Checked.{Checked}

-- number `which` of an answer; 0 where the answer has no such number
unfoldable pub number_of : ℕ → List ℕ → ℕ
number_of which numbers = get_or numbers which 0

-- 0 number, 1 row, 2 detail, 3 platform rows, 4 initialization rows, 5 directive rows
abbrev pub verdict_numbers : Verdict → List ℕ
verdict_numbers v =
    v.refusal.number
    ∷ v.refusal.row
    ∷ v.refusal.detail
    ∷ v.platforms
    ∷ v.initializations
    ∷ v.directives
    ∷ []

-- 0 number, 1 row, 2 detail, 3 15 applies (1 or 0), 4 34 applies (1 or 0), 5 rows, 6 faulty rows
abbrev pub report_numbers : Report → List ℕ
report_numbers a =
    a.refusal.number
    ∷ a.refusal.row
    ∷ a.refusal.detail
    ∷ cond a.no_platform 1 0
    ∷ cond a.no_context 1 0
    ∷ a.rows
    ∷ a.faulty
    ∷ []

-- 0 number, 1 row, 2 detail, 3 count, 4 page table (1 or 0), 5 gpa, 6 size, 7 used size, 8 VP index, 9 VTL
abbrev pub relocation_numbers : Relocations → List ℕ
relocation_numbers a =
    a.refusal.number
    ∷ a.refusal.row
    ∷ a.refusal.detail
    ∷ a.count
    ∷ cond a.has_page_table 1 0
    ∷ a.page_table.gpa
    ∷ a.page_table.size
    ∷ a.page_table.used_size
    ∷ a.page_table.vp_index
    ∷ a.page_table.vtl
    ∷ []

-- 0 number, 1 row, 2 detail, 3 the number of a named answer
abbrev pub answer_numbers : Answered → List ℕ
answer_numbers a = a.refusal.number ∷ a.refusal.row ∷ a.refusal.detail ∷ a.answer ∷ []

-- 0 number, 1 row, 2 detail, 3 contained (1 or 0)
abbrev pub check_numbers : Checked → List ℕ
check_numbers a = a.refusal.number ∷ a.refusal.row ∷ a.refusal.detail ∷ cond a.holds 1 0 ∷ []
