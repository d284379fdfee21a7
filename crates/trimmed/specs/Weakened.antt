-- The part of request 14 that is about the verdict, by what must remain: so a condition can be left out.
use Rattle.std.specs.Prelude.{ℕ, ◌<◌, true, List, ◌≢◌, ◌≡◌}
use Rattle.std.proofs.Math.Option.{some}
use Rattle.sheet.specs.Head.{limits, head_of}
use Rattle.order.specs.Demand.{Accepted}
use Rattle.trimmed.specs.Trimmed.{Remain, trimmed_sheet, directive_kind, directive_area, ContextsRemain, AreasRemain}

abbrev pub Statement : (Remain → List ℕ → Type 0) → Type 0
Statement MustRemain = (remain : Remain) (s : List ℕ) → Accepted limits s → MustRemain remain s → Accepted limits (trimmed_sheet remain s)

-- both conditions
abbrev pub Both : Remain → List ℕ → Type 0
Both remain s = ContextsRemain remain s × AreasRemain remain s

-- both, but of the areas only those that a remaining row names which is no insert
abbrev pub InsertsNameNone : Remain → List ℕ → Type 0
InsertsNameNone remain s =
    ContextsRemain remain s
    × ((i area : ℕ) → i < (head_of s).directives → remain.directives i ≡ true → directive_kind s i ≢ 50 → directive_area s i ≡ some area
    → (j : ℕ) → j < (head_of s).directives → directive_kind s j ≡ 33 → directive_area s j ≡ some area → remain.directives j ≡ true)
