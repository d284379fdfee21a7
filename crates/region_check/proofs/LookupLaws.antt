-- The lookup in an index and the lookup in its sheet agree.
use Rattle.rows.proofs.Kit.{ℕ, ◌+◌, ◌*◌, ◌/◌, ◌%◌, ◌<◌, ◌≡◌, sym, ap, ◌∙◌, false, ◌≢◌, List, [], ◌∷◌, take, length, length-take, ℕ_discrete, arith}
use Rattle.igvm_defs.specs.Refusals.{is_refusal}
use Rattle.sheet.specs.Head.{Limits, head_of}
use Rattle.sheet_headers.{specs.Headers.sheet_headers, proofs.HeaderLaws.sheet_counts}
use Rattle.rules.{specs.Accepted.NotRefused, specs.Owner.index_word, proofs.OwnerLaws.{by_start_some, row_word, place_small}}
use Rattle.answers.{specs.Owner.{index_refusal, region_index_of, index_after}, proofs.AnswerLaws.accepted_headers, proofs.OwnerLaws.{owners_of, query_says, owner_given, index_says, index_given, after_length, word_there, IndexIn, index_owner}}
use Rattle.region_check.specs.{Agreement.Bytes, Lookup.Lookup}
use Rattle.region_check.proofs.WordLaws.{le_bound, le_front}

-- ---- the words of an index are below 2^64

module _ (s : List ℕ) (bytes : Bytes s) where
  -- a list's row count is a number of two bytes
  few_rows : ((head_of s).platforms < 65536) × ((head_of s).initializations < 65536)
  unfolding head_of
  few_rows = (le_bound 2 s 8 bytes, le_bound 2 s 10 bytes)

  module _ (accepted : NotRefused (sheet_headers s)) (given : ℕ) (nonzero : given ≢ 0) where
    row_small : (k : ℕ) → k < owners_of s given → index_word (sheet_headers s) given (3 * k + 2) < 18446744073709551616
    row_small k l =
        let (i, r, e, m, _) = by_start_some (sheet_headers s) accepted given nonzero k l in
        let below = m.below in
        let counts = sheet_counts s in
        let (few-platforms, few) = few_rows in
        rw (row_word (sheet_headers s) given k i r e m.region) (omega arith)

    word_small : (w : ℕ) → w < 3 * owners_of s given → index_word (sheet_headers s) given w < 18446744073709551616
    word_small w l =
        let k : ℕ = w / 3 in
        let (start, size) = place_small (sheet_headers s) accepted given nonzero k (omega arith) in
        elim (ℕ_discrete (w % 3) 0) [
          | yes p ↦ let z : w ≡ 3 * (w / 3) = omega arith in rw z start
          | no p ↦
              elim (ℕ_discrete (w % 3) 1) [
                | yes q ↦ let z : w ≡ 3 * (w / 3) + 1 = omega arith in rw z size
                | no q ↦ let z : w ≡ 3 * (w / 3) + 2 = omega arith in rw z (row_small k (omega arith))
              ]
        ]

-- ---- the words that were filled

module _ (l : Limits) (s : List ℕ) (bytes : Bytes s) (given : ℕ) (b : List ℕ) where
  filled : is_refusal (index_refusal l s given (length b)) ≡ false → IndexIn (take (24 * owners_of s given) (index_after l s given b)) (sheet_headers s) given
  filled e =
      let (q, room) = (index_says l s given (length b)).0 e in
      let (v, n) = (query_says l s given).0 q in
      record {
        long = rw (length-take, after_length l s given b) (omega arith);
        word = λ w h.
            le_front (24 * owners_of s given) (index_after l s given b) 8 (8 * w) (omega arith)
            ∙ word_there l s given b e w h (word_small s bytes (accepted_headers l s v) given n w h);
      }

  not_refused : is_refusal (region_index_of l s given (length b)).refusal ≡ false → is_refusal (index_refusal l s given (length b)) ≡ false
  unfolding region_index_of
  not_refused e = e

pub lookup : (l : Limits) → Lookup l
lookup l s bytes given b e gpa =
    let f = not_refused l s bytes given b e in
    let (q, _) = (index_says l s given (length b)).0 f in
    let (v, n) = (query_says l s given).0 q in
    rw (owner_given l s given gpa q, index_given l s given (length b) f)
    (ap (λ (row : ℕ). 0 ∷ 0 ∷ 0 ∷ row ∷ []) (sym (index_owner (sheet_headers s) (accepted_headers l s v) given n _ (filled l s bytes given b f) gpa)))
