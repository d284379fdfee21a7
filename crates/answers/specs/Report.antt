-- The report on a byte string: refused by 1 to 7 and then by 37, else a word for each row, and 15 and 34 told beside them.
use Rattle.std.specs.Prelude.{ℕ, ◌/◌, false, cond, List, ltb, length}
use Rattle.igvm_defs.specs.declared.Fault.{Fault}
use Rattle.igvm_defs.specs.declared.Refusal.{Refusal}
use Rattle.igvm_defs.specs.Refusals.{fault, no_fault, refuse, is_refusal, in_row, or_else}
use Rattle.lent.specs.Lent.{words_put}
use Rattle.sheet.specs.Head.{Limits, head_of, row_count}
use Rattle.sheet.specs.Read.{sheet_refusal}
use Rattle.sheet_headers.specs.Headers.{sheet_headers}
use Rattle.rules.specs.Report.{report_word, faulty_rows, report_no_platform, report_no_context}
use Rattle.answers.specs.declared.Report.{Report}
use Rattle.answers.specs.Verdict.{count_unless}

-- 37: fewer words lent than rows. Bytes short of a word don't count
unfoldable pub row_words_fault : ℕ → ℕ → Fault
row_words_fault rows bytes = refuse (ltb (bytes / 8) rows) (fault 37 0) no_fault

-- 1 to 7, then 37
unfoldable pub report_refusal : Limits → List ℕ → ℕ → Refusal
report_refusal l s bytes = or_else (sheet_refusal l s) (in_row 0 (row_words_fault (row_count (head_of s)) bytes))

-- the answer, where so many bytes are lent
unfoldable pub report_of : Limits → List ℕ → ℕ → Report
report_of l s bytes =
    record {
      refusal = report_refusal l s bytes;
      no_platform = cond (is_refusal (report_refusal l s bytes)) false (report_no_platform (sheet_headers s));
      no_context = cond (is_refusal (report_refusal l s bytes)) false (report_no_context (sheet_headers s));
      rows = count_unless (report_refusal l s bytes) (row_count (head_of s));
      faulty = count_unless (report_refusal l s bytes) (faulty_rows (sheet_headers s));
    }

-- the lent bytes afterwards: a word for each row that the answer counts in front; every other byte as it was
unfoldable pub report_after : Limits → List ℕ → List ℕ → List ℕ
report_after l s b = words_put 0 (report_of l s (length b)).rows (report_word (sheet_headers s)) b
