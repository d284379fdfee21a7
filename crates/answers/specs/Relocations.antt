-- What the queries answer of a byte string, a mask and the words lent, or a region's number: the verdict's refusal, 35, then 36 or 37.
use Rattle.std.specs.Prelude.{ℕ, ◌*◌, ◌/◌, Bool, true, false, cond, not, List, [], eqb, ltb, length}
use Rattle.std.proofs.Math.Option.{Option, none, some}
use Rattle.rows.specs.Rows.{Rows}
use Rattle.igvm_defs.specs.declared.Fault.{Fault}
use Rattle.igvm_defs.specs.declared.Refusal.{Refusal}
use Rattle.igvm_defs.specs.Refusals.{fault, no_fault, refuse, is_refusal, in_row, or_else}
use Rattle.sheet.specs.Head.{Limits}
use Rattle.initialization_header.specs.declared.IgvmInitializationHeader.{IgvmInitializationHeader}
use Rattle.sheet_headers.specs.Headers.{sheet_headers}
use Rattle.rules.specs.declared.IgvmRelocatableRegion.{IgvmRelocatableRegion}
use Rattle.rules.specs.declared.PageTableRegion.{PageTableRegion}
use Rattle.rules.specs.Relocations.{region_count, region_at, page_table_at, words_of, region_contains, relocation_base_check}
use Rattle.addresses.specs.BaseChecks.{check_number}
use Rattle.lent.specs.Lent.{rows_put}
use Rattle.answers.specs.declared.Relocations.{Relocations}
use Rattle.answers.specs.declared.Answered.{Answered}
use Rattle.answers.specs.declared.Checked.{Checked}
use Rattle.answers.specs.Verdict.{verdict_refusal}

abbrev pub sheet_initializations : List ℕ → Rows IgvmInitializationHeader
sheet_initializations s = (sheet_headers s).initializations

-- 35: query mask 0
unfoldable pub mask_fault : ℕ → Fault
mask_fault given = refuse (eqb given 0) (fault 35 0) no_fault

-- what every query is refused by first: the verdict's refusal, then 35
unfoldable pub query_refusal : Limits → List ℕ → ℕ → Refusal
query_refusal l s given = or_else (verdict_refusal l s) (in_row 0 (mask_fault given))

-- ---- the region list, into lent bytes

-- 37: fewer words lent than eight a region. Bytes short of a word don't count
unfoldable pub words_fault : ℕ → ℕ → Fault
words_fault count bytes = refuse (ltb (bytes / 8) (8 * count)) (fault 37 0) no_fault

unfoldable pub relocations_refusal : Limits → List ℕ → ℕ → ℕ → Refusal
relocations_refusal l s given bytes =
    or_else (verdict_refusal l s)
    (or_else (in_row 0 (mask_fault given))
    (in_row 0 (words_fault (region_count (sheet_initializations s) given) bytes)))

abbrev pub no_page_table : PageTableRegion
no_page_table = record { gpa = 0; size = 0; used_size = 0; vp_index = 0; vtl = 0 }

abbrev pub found_of : ℕ → Option PageTableRegion → Refusal → Relocations
found_of count none r = record { refusal = r; count = count; has_page_table = false; page_table = no_page_table }
found_of count (some table) r = record { refusal = r; count = count; has_page_table = true; page_table = table }

unfoldable pub relocations_of : Limits → List ℕ → ℕ → ℕ → Relocations
relocations_of l s given bytes =
    cond (is_refusal (relocations_refusal l s given bytes))
    (found_of 0 none (relocations_refusal l s given bytes))
    (found_of (region_count (sheet_initializations s) given) (page_table_at (sheet_initializations s) given) (relocations_refusal l s given bytes))

-- the words of a region that was looked for
abbrev pub region_words : Option IgvmRelocatableRegion → List ℕ
region_words none = []
region_words (some r) = words_of r

-- the lent bytes afterwards: the regions' words in front, as many as the answer counts; every other byte as it was
unfoldable pub words_after : Limits → List ℕ → ℕ → List ℕ → List ℕ
words_after l s given b =
    rows_put (relocations_of l s given (length b)).count (λ n. region_words (region_at (sheet_initializations s) given n)) b

-- ---- checks on one region, by its number

-- 36: region number too high
unfoldable pub region_fault : ℕ → ℕ → Fault
region_fault count region = refuse (not (ltb region count)) (fault 36 0) no_fault

unfoldable pub check_refusal : Limits → List ℕ → ℕ → ℕ → Refusal
check_refusal l s given region =
    or_else (verdict_refusal l s)
    (or_else (in_row 0 (mask_fault given))
    (in_row 0 (region_fault (region_count (sheet_initializations s) given) region)))

abbrev pub test_region : (IgvmRelocatableRegion → Bool) → Option IgvmRelocatableRegion → Bool
test_region p none = false
test_region p (some r) = p r

unfoldable pub check_of : (IgvmRelocatableRegion → Bool) → Limits → List ℕ → ℕ → ℕ → Checked
check_of p l s given region =
    record {
      refusal = check_refusal l s given region;
      holds = cond (is_refusal (check_refusal l s given region)) false (test_region p (region_at (sheet_initializations s) given region));
    }

-- whether an address lies in a region
abbrev pub contains_of : Limits → List ℕ → ℕ → ℕ → ℕ → Checked
contains_of l s given region gpa = check_of (λ r. region_contains r gpa) l s given region

-- ---- a named answer about one region, by its number: the answers count from 1, and 0 stands in a refusal

-- of a region that was looked for
abbrev pub answer_for : (IgvmRelocatableRegion → ℕ) → Option IgvmRelocatableRegion → ℕ
answer_for f none = 0
answer_for f (some r) = f r

unfoldable pub answer_of : (IgvmRelocatableRegion → ℕ) → Limits → List ℕ → ℕ → ℕ → Answered
answer_of f l s given region =
    record {
      refusal = check_refusal l s given region;
      answer = cond (is_refusal (check_refusal l s given region)) 0 (answer_for f (region_at (sheet_initializations s) given region));
    }

-- the number of what is said of moving a region to a base
abbrev pub base_number : ℕ → IgvmRelocatableRegion → ℕ
base_number base r = check_number (relocation_base_check r base)

-- whether a region may be moved to a base, or why not
abbrev pub base_check_of : Limits → List ℕ → ℕ → ℕ → ℕ → Answered
base_check_of l s given region base = answer_of (base_number base) l s given region
