-- The checks on a region's words and those on its sheet agree.
use Rattle.rows.{proofs.Kit.{ℕ, ◌+◌, ◌*◌, ◌≤◌, ◌<◌, ◌≡◌, refl, sym, ap, ◌∙◌, false, inl, inr, List, [], ◌∷◌, Option, none, some, length, length-take, length-drop, le-leb, lt-ltb, ne_eqb, arith, get_or, not-suc-le-zero}, proofs.Bools.which}
use Rattle.le.specs.Le.{le_at}
use Rattle.lent.{specs.Lent.rows_put, proofs.LentLaws.{rows_length, word_is}}
use Rattle.igvm_defs.{specs.Refusals.{no_refusal, is_fault, is_refusal}, proofs.RefusalLaws.{row_refusal_lem, or_else_later, no_fault_row}}
use Rattle.sheet.{specs.Head.{Limits, head_of}, specs.Table.{row_kind, body_of, row_length, offset_of}}
use Rattle.sheet_headers.specs.Headers.{sheet_headers}
use Rattle.rules.{specs.declared.IgvmRelocatableRegion.IgvmRelocatableRegion, specs.Relocations.{region_at, page_table_at, words_of}}
use Rattle.answers.{specs.Relocations.{sheet_initializations, mask_fault, region_fault, relocations_refusal, relocations_of, region_words, words_after, check_refusal, check_of, contains_of, answer_of, base_check_of}, specs.Region.{region_of, region_check_of, region_base_check_of, region_contains_of}, specs.Numbers.{answer_numbers, check_numbers}, proofs.AnswerLaws.{regions_of, region_there, list_says, found_count}}
use Rattle.region_check.specs.Agreement.{Bytes, words_of_region, Agreement}
use Rattle.region_check.proofs.WordLaws.{part_bytes, le_part, row_bound, region_bound}

-- eight words say the region that they are the words of
said_region : (r : IgvmRelocatableRegion) (b : List ℕ) → 64 ≤ length b → ((j : ℕ) → j < 8 → le_at 8 b (8 * j) ≡ get_or (words_of r) j 0) → region_of b ≡ some r
unfolding region_of
said_region r b l h =
    rw (le-leb 64 (length b) l, h 0 (omega arith), h 1 (omega arith), h 2 (omega arith), h 3 (omega arith), h 4 (omega arith), h 5 (omega arith), h 6 (omega arith), h 7 (omega arith))

-- ---- the words that a region list put

module _ (s : List ℕ) (given k : ℕ) where
  -- the words of region n
  abbrev words_at : ℕ → List ℕ
  words_at n = region_words (region_at (sheet_initializations s) given n)

  module _ (bytes : Bytes s) (b : List ℕ) (room : 64 * regions_of s given ≤ length b) (l : k < regions_of s given) where
    word_small : (j : ℕ) → get_or (words_at k) j 0 < 18446744073709551616
    unfolding sheet_headers body_of
    word_small j =
        region_bound (sheet_initializations s) given k j
        (λ i. let n : ℕ = (head_of s).platforms + i in row_bound (row_kind s n) (body_of s n) (part_bytes (row_length s n) (offset_of s n) s bytes) j)

    word_at : (j : ℕ) → j < 8 → le_at 8 (words_of_region k (rows_put (regions_of s given) words_at b)) (8 * j) ≡ get_or (words_at k) j 0
    word_at j h = le_part 64 (64 * k) _ 8 (8 * j) (omega arith) ∙ word_is (regions_of s given) words_at b room k j l h (word_small j)

    long : 64 ≤ length (words_of_region k (rows_put (regions_of s given) words_at b))
    long = rw (length-take, length-drop, rows_length (regions_of s given) words_at b) (omega arith)

    -- they say region k
    region_said : region_of (words_of_region k (rows_put (regions_of s given) words_at b)) ≡ region_at (sheet_initializations s) given k
    region_said = go (region_at (sheet_initializations s) given k) refl
      where
        go : (o : Option IgvmRelocatableRegion) → region_at (sheet_initializations s) given k ≡ o
            → region_of (words_of_region k (rows_put (regions_of s given) words_at b)) ≡ region_at (sheet_initializations s) given k
        go none e = absurd (region_there s given k l e)
        go (some r) e = said_region r _ long (λ j h. word_at j h ∙ ap (λ (o : Option IgvmRelocatableRegion). get_or (region_words o) j 0) e) ∙ sym e

-- ---- the two checks

module _ (l : Limits) (s : List ℕ) (bytes : Bytes s) (given : ℕ) (b : List ℕ) (k : ℕ) where
  -- a region list that counts a region is not refused
  counted : k < (relocations_of l s given (length b)).count → (is_refusal (relocations_refusal l s given (length b)) ≡ false) × ((relocations_of l s given (length b)).count ≡ regions_of s given)
  unfolding relocations_of
  counted h =
      elim (which (is_refusal (relocations_refusal l s given (length b)))) [
        | inl e ↦ absurd (not-suc-le-zero (rw e at h))
        | inr e ↦ (e, rw e (found_count _ (page_table_at (sheet_initializations s) given) (relocations_refusal l s given (length b))))
      ]

  not_refused : is_refusal (relocations_refusal l s given (length b)) ≡ false → k < regions_of s given → check_refusal l s given k ≡ no_refusal
  unfolding check_refusal mask_fault region_fault is_fault
  not_refused f m =
      let (v, n, _) = list_says l s given (length b) f in
      or_else_later _ _ v
      ∙ or_else_later _ _ (row_refusal_lem 0 _ ∙ rw (ne_eqb given 0 n))
      ∙ no_fault_row 0 _ (rw (lt-ltb k (regions_of s given) m))

  -- the check by its number is not refused, and the words say the region of that number
  same : k < (relocations_of l s given (length b)).count
      → (check_refusal l s given k ≡ no_refusal) × (region_of (words_of_region k (words_after l s given b)) ≡ region_at (sheet_initializations s) given k)
  unfolding words_after
  same h =
      let (f, n) = counted h in
      let m : k < regions_of s given = rw n at h in
      let room : 64 * regions_of s given ≤ length b = omega (arith, (list_says l s given (length b) f).2) in
      (not_refused f m, rw n (region_said s given k bytes b room m))

  base_same : k < (relocations_of l s given (length b)).count → (base : ℕ)
      → answer_numbers (base_check_of l s given k base) ≡ 0 ∷ 0 ∷ 0 ∷ region_base_check_of (words_of_region k (words_after l s given b)) base ∷ []
  unfolding answer_of is_refusal
  base_same h base = let (f, e) = same h in rw (f, e)

  contains_same : k < (relocations_of l s given (length b)).count → (gpa : ℕ)
      → check_numbers (contains_of l s given k gpa) ≡ 0 ∷ 0 ∷ 0 ∷ region_contains_of (words_of_region k (words_after l s given b)) gpa ∷ []
  unfolding check_of region_check_of is_refusal
  contains_same h gpa = let (f, e) = same h in rw (f, e)

pub agreement : (l : Limits) → Agreement l
agreement l s bytes given b k h = (base_same l s bytes given b k h, contains_same l s bytes given b k h)
