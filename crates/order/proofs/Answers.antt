-- What the region list answers of two accepted sheets that have as many regions of a mask, the same page table and the same region.
use Rattle.rows.{proofs.Kit.{◌≡◌, refl, ap, false, List, ◌≢◌, ℕ, ◌+◌, ◌*◌, ◌/◌, ◌<◌, arith, length}, proofs.Bools.cond_same}
use Rattle.le.specs.Le.{le_at}
use Rattle.igvm_defs.{specs.Refusals.is_refusal, proofs.RefusalLaws.or_else_later}
use Rattle.lent.proofs.LentLaws.{same_words}
use Rattle.sheet.specs.Head.{Limits}
use Rattle.rules.specs.Relocations.{region_at, page_table_at}
use Rattle.answers.{proofs.AnswerLaws.{regions_of, list_says, found_count, list_refusal, list_found}, specs.Verdict.verdict_refusal, specs.Relocations.{sheet_initializations, words_fault, relocations_refusal, relocations_of, region_words, words_after}}
use Rattle.order.specs.Demand.{Accepted}

list_count : (l : Limits) (s : List ℕ) (given bytes : ℕ) → is_refusal (relocations_refusal l s given bytes) ≡ false
    → (relocations_of l s given bytes).count ≡ regions_of s given
list_count l s given bytes f =
    rw (list_found l s given bytes f) (found_count (regions_of s given) (page_table_at (sheet_initializations s) given) (relocations_refusal l s given bytes))

module _ (l : Limits) (a b : List ℕ) (va : Accepted l a) (vb : Accepted l b) (given : ℕ) (counts : regions_of a given ≡ regions_of b given) where
  list_refusal_same : (bytes bytes' : ℕ) → bytes / 8 ≡ bytes' / 8 → relocations_refusal l a given bytes ≡ relocations_refusal l b given bytes'
  unfolding relocations_refusal words_fault
  list_refusal_same bytes bytes' e = rw (or_else_later (verdict_refusal l a) _ va, or_else_later (verdict_refusal l b) _ vb, counts, e)

  pub list_same : (given ≢ 0 → page_table_at (sheet_initializations a) given ≡ page_table_at (sheet_initializations b) given)
      → (bytes bytes' : ℕ) → bytes / 8 ≡ bytes' / 8 → relocations_of l a given bytes ≡ relocations_of l b given bytes'
  unfolding relocations_of
  list_same tables bytes bytes' e =
      rw (list_refusal_same bytes bytes' e, counts)
      (cond_same (is_refusal (relocations_refusal l b given bytes')) _ _ _ _ (λ _. refl) (λ f. rw (tables (list_says l b given bytes' f).1)))

  -- two regions that are the same, by their numbers n and m
  pub words_same : (n m : ℕ) → n < regions_of a given → m < regions_of b given
      → region_at (sheet_initializations a) given n ≡ region_at (sheet_initializations b) given m
      → (x y : List ℕ) → length x / 8 ≡ length y / 8 → is_refusal (relocations_of l a given (length x)).refusal ≡ false → (k : ℕ) → k < 8
      → le_at 8 (words_after l a given x) (64 * n + 8 * k) ≡ le_at 8 (words_after l b given y) (64 * m + 8 * k)
  unfolding words_after
  words_same n m ln lm e x y h f k lk =
      let fa = rw (list_refusal l a given (length x)) at f in
      let fb = rw (list_refusal_same (length x) (length y) h) at fa in
      let ra = (list_says l a given (length x) fa).2 in
      let rb = (list_says l b given (length y) fb).2 in
      rw (list_count l a given (length x) fa, list_count l b given (length y) fb)
      (same_words (regions_of a given) (regions_of b given) _ _ x y (omega arith) (omega arith) n m k ln lm lk (ap region_words e))
