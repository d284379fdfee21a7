-- What a desk answers to a relocation query: over the initialization rows taken so far while the upload is unfinished, and after closing what the sheet answers.
use Rattle.std.specs.Prelude.{ℕ, Bool, false, cond, not, List, [], ◌∷◌, ◌++◌, length}
use Rattle.std.proofs.Math.Option.{none}
use Rattle.rows.specs.Rows.{Rows}
use Rattle.igvm_defs.specs.{declared.Refusal.Refusal, Refusals.{is_refusal, in_row, or_else}}
use Rattle.sheet.specs.Head.{Limits}
use Rattle.initialization_header.specs.declared.IgvmInitializationHeader.{IgvmInitializationHeader}
use Rattle.lent.specs.Lent.{rows_put}
use Rattle.rules.specs.Relocations.{region_count, region_at, page_table_at}
use Rattle.answers.specs.{declared.Relocations.Relocations, Relocations.{mask_fault, words_fault, found_of, region_words, relocations_of, words_after}, Numbers.relocation_numbers}
use Rattle.uploads.specs.{Upload.{Upload, upload_sheet, upload_headers}, Desk.{Status, told}}
use Rattle.uploads.specs.Desk.Status.{Empty, Open, Closed, Stopped}

-- ---- over these initialization headers: 35, 37, then the regions of the mask and its page table. There is no 15 and no 34

unfoldable pub so_far_refusal : Rows IgvmInitializationHeader → ℕ → ℕ → Refusal
so_far_refusal xs given bytes = or_else (in_row 0 (mask_fault given)) (in_row 0 (words_fault (region_count xs given) bytes))

unfoldable pub so_far : Rows IgvmInitializationHeader → ℕ → ℕ → Relocations
so_far xs given bytes =
    cond (is_refusal (so_far_refusal xs given bytes))
    (found_of 0 none (so_far_refusal xs given bytes))
    (found_of (region_count xs given) (page_table_at xs given) (so_far_refusal xs given bytes))

-- the lent bytes afterwards: the regions' words in front, as many as the answer counts; every other byte as it was
unfoldable pub so_far_after : Rows IgvmInitializationHeader → ℕ → List ℕ → List ℕ
so_far_after xs given b = rows_put (so_far xs given (length b)).count (λ n. region_words (region_at xs given n)) b

-- ---- of a desk

abbrev pub upload_initializations : Upload → Rows IgvmInitializationHeader
upload_initializations u = (upload_headers u).initializations

abbrev pub listed : Limits → Status → ℕ → ℕ → Relocations
listed l Empty given bytes = found_of 0 none (told Empty)
listed l (Open u) given bytes = so_far (upload_initializations u) given bytes
listed l (Closed u) given bytes = relocations_of l (upload_sheet u) given bytes
listed l (Stopped q) given bytes = found_of 0 none q

-- whether it is unfinished; no in a refusal
abbrev pub unfinished : Status → Relocations → Bool
unfinished Empty a = false
unfinished (Open u) a = not (is_refusal a.refusal)
unfinished (Closed u) a = false
unfinished (Stopped q) a = false

-- 0 to 9 as of a region list, 10 unfinished (1 or 0)
abbrev pub list_numbers : Limits → Status → ℕ → ℕ → List ℕ
list_numbers l s given bytes =
    relocation_numbers (listed l s given bytes) ++ (cond (unfinished s (listed l s given bytes)) 1 0 ∷ [])

abbrev pub list_after : Limits → Status → ℕ → List ℕ → List ℕ
list_after l Empty given b = b
list_after l (Open u) given b = so_far_after (upload_initializations u) given b
list_after l (Closed u) given b = words_after l (upload_sheet u) given b
list_after l (Stopped q) given b = b
