-- The verdict on head and rows, with no sheet in hand: refusals 2 to 34. Of a sheet made of rows 1 and 6 don't occur: a body comes whole, and nothing is left over.
use Rattle.std.specs.Prelude.{ℕ, ◌+◌, not, eqb, length}
use Rattle.rows.specs.Below.{sum_below}
use Rattle.igvm_defs.specs.declared.Fault.{Fault}
use Rattle.igvm_defs.specs.declared.Refusal.{Refusal}
use Rattle.igvm_defs.specs.Refusals.{fault, no_fault, refuse, in_row, or_else, first_fault}
use Rattle.igvm_defs.specs.Kinds.{kind_of, length_ok}
use Rattle.sheet.specs.declared.SheetHead.{SheetHead}
use Rattle.sheet.specs.Head.{Limits, row_count, bodies_at, layout_ok, within_limits, page_size_fault}
use Rattle.sheet.specs.Read.{list_at, codes_ok}
use Rattle.rules.specs.Verdict.{headers_refusal}
use Rattle.sheet_of.specs.SheetOf.{Row, row_headers}

-- how many bytes the sheet has
unfoldable pub bytes_of : SheetHead → (ℕ → Row) → ℕ
bytes_of h row = bodies_at h + sum_below (row_count h) (λ k. length (row k).body)

-- 2, 3
unfoldable pub head_fault : Limits → SheetHead → ℕ → Fault
head_fault l h bytes = refuse (not (layout_ok h)) (fault 2 0) (refuse (not (within_limits l h bytes)) (fault 3 0) no_fault)

-- 4, 5 (length), 5 (codes) of a row offered in a list
unfoldable pub offered_fault : ℕ → Row → Fault
offered_fault list r =
    refuse (not (eqb (kind_of r.kind).list list)) (fault 4 0)
    (refuse (not (length_ok (kind_of r.kind) (length r.body))) (fault 5 0)
    (refuse (not (codes_ok r.kind r.body)) (fault 5 0)
    no_fault))

-- 2 to 5
unfoldable pub offered_refusal : Limits → SheetHead → (ℕ → Row) → Refusal
offered_refusal l h row =
    or_else (in_row 0 (head_fault l h (bytes_of h row))) (first_fault 0 (row_count h) (λ k. offered_fault (list_at h k) (row k)))

-- 2 to 5, 7, then 8 to 34
unfoldable pub rows_verdict : Limits → SheetHead → (ℕ → Row) → Refusal
rows_verdict l h row = or_else (or_else (offered_refusal l h row) (in_row 0 (page_size_fault h))) (headers_refusal (row_headers h row))
