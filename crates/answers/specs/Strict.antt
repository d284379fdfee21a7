-- The strict verdict on a byte string: the verdict, and where it accepts, 38.
use Rattle.std.specs.Prelude.{ℕ, List}
use Rattle.igvm_defs.specs.declared.Refusal.{Refusal}
use Rattle.igvm_defs.specs.Refusals.{or_else}
use Rattle.sheet.specs.Head.{Limits, head_of}
use Rattle.sheet_headers.specs.Headers.{sheet_headers}
use Rattle.rules.specs.Strict.{contexts_refusal}
use Rattle.answers.specs.declared.Verdict.{Verdict}
use Rattle.answers.specs.Verdict.{verdict_refusal, count_unless}

-- 1 to 34, then 38
unfoldable pub strict_refusal : Limits → List ℕ → Refusal
strict_refusal l s = or_else (verdict_refusal l s) (contexts_refusal (sheet_headers s))

-- the answer: the refusal, and the row counts of a file that is strictly accepted
unfoldable pub strict_verdict_of : Limits → List ℕ → Verdict
strict_verdict_of l s =
    record {
      refusal = strict_refusal l s;
      platforms = count_unless (strict_refusal l s) (head_of s).platforms;
      initializations = count_unless (strict_refusal l s) (head_of s).initializations;
      directives = count_unless (strict_refusal l s) (head_of s).directives;
    }
