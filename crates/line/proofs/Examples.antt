-- Two lines, by computing.
use Rattle.rows.proofs.Kit.{◌≡◌, refl, [], ◌∷◌}
use Rattle.igvm_defs.specs.Refusals.{refusal, no_refusal, is_refusal}
use Rattle.line.specs.Line.{digits_in, accepted_line, refused_line, line_of}

-- accepted 1 1 1
accepted : line_of (record { refusal = no_refusal; platforms = 1; initializations = 1; directives = 1 })
    ≡ 97 ∷ 99 ∷ 99 ∷ 101 ∷ 112 ∷ 116 ∷ 101 ∷ 100 ∷ 32 ∷ 49 ∷ 32 ∷ 49 ∷ 32 ∷ 49 ∷ 10 ∷ []
unfolding line_of accepted_line digits_in is_refusal
accepted = refl

-- refused 19 row 2 detail 0
refused : line_of (record { refusal = refusal 19 2 0; platforms = 0; initializations = 0; directives = 0 })
    ≡ 114 ∷ 101 ∷ 102 ∷ 117 ∷ 115 ∷ 101 ∷ 100 ∷ 32 ∷ 49 ∷ 57 ∷ 32 ∷ 114 ∷ 111 ∷ 119 ∷ 32 ∷ 50 ∷ 32 ∷ 100 ∷ 101 ∷ 116 ∷ 97 ∷ 105 ∷ 108 ∷ 32 ∷ 48 ∷ 10 ∷ []
unfolding line_of refused_line digits_in is_refusal
refused = refl
