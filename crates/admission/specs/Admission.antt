-- What `admit` says of its input.
use Rattle.std.specs.Prelude.{ℕ, cond, List, ltb, length}
use Rattle.igvm_defs.specs.Refusals.{refusal}
use Rattle.sheet.specs.Head.{Limits}
use Rattle.answers.specs.declared.Verdict.{Verdict}
use Rattle.answers.specs.Verdict.{verdict_of}
use Rattle.line.specs.Line.{line_of}

-- the verdict on an input: above 65,536 bytes it is 3, before all else
unfoldable pub admit_of : Limits → List ℕ → Verdict
admit_of l s =
    cond (ltb 65536 (length s))
    (record { refusal = refusal 3 0 0; platforms = 0; initializations = 0; directives = 0 })
    (verdict_of l s)

-- the line
abbrev pub admit_line : Limits → List ℕ → List ℕ
admit_line l s = line_of (admit_of l s)
