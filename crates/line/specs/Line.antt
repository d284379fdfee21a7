-- The line that `admit` writes of a verdict: `accepted P I D`, or `refused N row R detail D`, and a newline. Numbers are decimal.
use Rattle.std.specs.Prelude.{ℕ, zero, suc, ◌+◌, ◌/◌, ◌%◌, cond, List, [], ◌∷◌, ◌++◌, ltb}
use Rattle.igvm_defs.specs.Refusals.{is_refusal}
use Rattle.answers.specs.declared.Verdict.{Verdict}

-- the last k digits of a number at most, the most significant first, with no zero in front
unfoldable pub digits_in : ℕ → ℕ → List ℕ
digits_in zero n = []
digits_in (suc k) n = cond (ltb n 10) ((48 + n) ∷ []) (digits_in k (n / 10) ++ ((48 + n % 10) ∷ []))

-- a number below 2^64 has at most 20 digits
abbrev pub decimal : ℕ → List ℕ
decimal n = digits_in 20 n

-- "accepted "
abbrev pub accepted_word : List ℕ
accepted_word = 97 ∷ 99 ∷ 99 ∷ 101 ∷ 112 ∷ 116 ∷ 101 ∷ 100 ∷ 32 ∷ []

-- "refused "
abbrev pub refused_word : List ℕ
refused_word = 114 ∷ 101 ∷ 102 ∷ 117 ∷ 115 ∷ 101 ∷ 100 ∷ 32 ∷ []

-- " row "
abbrev pub row_word : List ℕ
row_word = 32 ∷ 114 ∷ 111 ∷ 119 ∷ 32 ∷ []

-- " detail "
abbrev pub detail_word : List ℕ
detail_word = 32 ∷ 100 ∷ 101 ∷ 116 ∷ 97 ∷ 105 ∷ 108 ∷ 32 ∷ []

abbrev pub space : List ℕ
space = 32 ∷ []

abbrev pub newline : List ℕ
newline = 10 ∷ []

unfoldable pub accepted_line : Verdict → List ℕ
accepted_line v =
    accepted_word ++ decimal v.platforms ++ space ++ decimal v.initializations ++ space ++ decimal v.directives ++ newline

unfoldable pub refused_line : Verdict → List ℕ
refused_line v =
    refused_word ++ decimal v.refusal.number ++ row_word ++ decimal v.refusal.row ++ detail_word
    ++ decimal v.refusal.detail ++ newline

unfoldable pub line_of : Verdict → List ℕ
line_of v = cond (is_refusal v.refusal) (refused_line v) (accepted_line v)
