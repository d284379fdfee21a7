-- Beside demand 3's conclusion: the strict verdict is accepted in run A exactly when it is in run B. Where 38 refuses both, its row and detail may differ, as those of other
-- refusals do.
use Rattle.std.specs.Prelude.{ℕ, ◌≡◌, false, List, ◌↔◌}
use Rattle.igvm_defs.specs.Refusals.{is_refusal}
use Rattle.sheet.specs.Head.{Limits}
use Rattle.answers.specs.Strict.{strict_refusal}

-- the strict verdict is accepted
abbrev pub StrictlyAccepted : Limits → List ℕ → Type 0
StrictlyAccepted l s = is_refusal (strict_refusal l s) ≡ false

abbrev pub SameStrict : Limits → List ℕ → List ℕ → Type 0
SameStrict l a b = StrictlyAccepted l a ↔ StrictlyAccepted l b
