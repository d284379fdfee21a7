-- The checks on a region's words and those on its sheet agree.
use Rattle.std.specs.Prelude.{ℕ, ◌*◌, ◌<◌, List, [], ◌∷◌, ◌≡◌, length, take, drop}
use Rattle.le.specs.Le.{byte_at}
use Rattle.sheet.specs.Head.{Limits}
use Rattle.answers.specs.Relocations.{relocations_of, words_after, base_check_of, contains_of}
use Rattle.answers.specs.Region.{region_base_check_of, region_contains_of}
use Rattle.answers.specs.Numbers.{answer_numbers, check_numbers}

-- every item is a byte
abbrev pub Bytes : List ℕ → Type 0
Bytes s = (j : ℕ) → byte_at s j < 256

-- the eight words of region k in the bytes that were lent
abbrev pub words_of_region : ℕ → List ℕ → List ℕ
words_of_region k b = take 64 (drop (64 * k) b)

-- of each region that a region list counts, the checks by its number are not refused, and answer as those on the words that the list put
abbrev pub Agreement : Limits → Type 0
Agreement l =
    (s : List ℕ) → Bytes s → (given : ℕ) (b : List ℕ) (k : ℕ) → k < (relocations_of l s given (length b)).count
    → ((base : ℕ) → answer_numbers (base_check_of l s given k base) ≡ 0 ∷ 0 ∷ 0 ∷ region_base_check_of (words_of_region k (words_after l s given b)) base ∷ [])
    × ((gpa : ℕ) → check_numbers (contains_of l s given k gpa) ≡ 0 ∷ 0 ∷ 0 ∷ region_contains_of (words_of_region k (words_after l s given b)) gpa ∷ [])
