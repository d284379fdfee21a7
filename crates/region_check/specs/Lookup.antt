-- The lookup in an index and the lookup in its sheet agree.
use Rattle.std.specs.Prelude.{ℕ, ◌*◌, false, List, [], ◌∷◌, ◌≡◌, length, take}
use Rattle.igvm_defs.specs.Refusals.{is_refusal}
use Rattle.sheet.specs.Head.{Limits}
use Rattle.answers.specs.Owner.{region_owner_of, region_index_of, index_after, region_in}
use Rattle.answers.specs.Numbers.{answer_numbers}
use Rattle.region_check.specs.Agreement.{Bytes}

-- the part of the lent bytes that the index of a mask's regions fills
abbrev pub index_part : Limits → List ℕ → ℕ → List ℕ → List ℕ
index_part l s given b = take (24 * (region_index_of l s given (length b)).answer) (index_after l s given b)

-- where the index is not refused, the lookup in the sheet is not either, and of every address the words that were filled answer as the sheet
abbrev pub Lookup : Limits → Type 0
Lookup l =
    (s : List ℕ) → Bytes s → (given : ℕ) (b : List ℕ) → is_refusal (region_index_of l s given (length b)).refusal ≡ false
    → (gpa : ℕ) → answer_numbers (region_owner_of l s given gpa) ≡ 0 ∷ 0 ∷ 0 ∷ region_in (index_part l s given b) gpa ∷ []
