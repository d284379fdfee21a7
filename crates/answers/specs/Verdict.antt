-- The verdict on a byte string: accepted, or the first refusal of 1 to 34 in the order of the lists and rows.
use Rattle.std.specs.Prelude.{ℕ, cond, List}
use Rattle.igvm_defs.specs.declared.Refusal.{Refusal}
use Rattle.igvm_defs.specs.Refusals.{is_refusal, or_else}
use Rattle.sheet.specs.Head.{Limits, head_of}
use Rattle.sheet.specs.Read.{sheet_refusal}
use Rattle.sheet_headers.specs.Headers.{sheet_headers}
use Rattle.rules.specs.Verdict.{headers_refusal}
use Rattle.answers.specs.declared.Verdict.{Verdict}

-- 1 to 34
unfoldable pub verdict_refusal : Limits → List ℕ → Refusal
verdict_refusal l s = or_else (sheet_refusal l s) (headers_refusal (sheet_headers s))

-- a row count, and 0 in a refusal
abbrev pub count_unless : Refusal → ℕ → ℕ
count_unless r n = cond (is_refusal r) 0 n

-- the answer: the refusal, and the row counts of an accepted file
unfoldable pub verdict_of : Limits → List ℕ → Verdict
verdict_of l s =
    record {
      refusal = verdict_refusal l s;
      platforms = count_unless (verdict_refusal l s) (head_of s).platforms;
      initializations = count_unless (verdict_refusal l s) (head_of s).initializations;
      directives = count_unless (verdict_refusal l s) (head_of s).directives;
    }
