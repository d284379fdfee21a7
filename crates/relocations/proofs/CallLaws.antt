-- What the calls answer where one of their refusals applies, and where none does.
use Rattle.std.specs.Prelude.{Some, None}
use Rattle.std.specs.Prelude as rust
use Rattle.rows.{proofs.Kit.{inl, inr, ◌≡◌, refl, ap, sym, ◌∙◌, Bool, true, false, not, cond, List, Option, none, some, ℕ, ◌*◌, ◌/◌, ◌≤◌, ◌<◌, arith, dec_lt, ltb, ltb-true, ltb-false, lt-ltb, le-ltb, length}, specs.Answered.option_of, specs.Below.{nth_below, count_below}, specs.Rows.{Rows, row_at}, proofs.Bools.{which, or_false_parts, ltb_same}, proofs.BelowLaws.{nth_says, count_lt}}
use Rattle.igvm_defs.{specs.declared.Refusal.Refusal, specs.Refusals.{refusal, no_refusal, is_refusal, in_row, or_else}, proofs.RefusalLaws.{or_else_first, or_else_later, else_refusal, row_refusal_lem, no_fault_row}}
use Rattle.lent.{specs.Lent.rows_put, proofs.LentLaws.rows_none}
use Rattle.sheet.{specs.Head.{Limits}, specs.Read.Readable}
use Rattle.initialization_header.specs.declared.IgvmInitializationHeader.{IgvmInitializationHeader}
use Rattle.rules.{specs.Options.then, specs.Relocations.{is_relocatable, relocatable_of, region_count, region_at, page_table_at}, specs.declared.IgvmRelocatableRegion.IgvmRelocatableRegion}
use Rattle.answers.{proofs.AnswerLaws.{answered, regions_of, region_there, accepted_readable, list_says, found_count}, specs.declared.Answered.Answered, specs.Verdict.verdict_refusal, specs.Relocations.{sheet_initializations, mask_fault, query_refusal, words_fault, relocations_refusal, found_of, relocations_of, region_words, words_after, region_fault, check_refusal, check_of, answer_for}, specs.BaseRanges.{range_fault, range_refusal}}
use Rattle.query.proofs.QueryLaws.{Stops, not_refused, else_stops, own_stops, own_passes}

-- a region that is there has a number below the count
region_below : (xs : Rows IgvmInitializationHeader) (given k : ℕ) (r : IgvmRelocatableRegion) → region_at xs given k ≡ some r → k < region_count xs given
unfolding region_at region_count
region_below xs given k r e = go (nth_below xs.count p k) refl e
  where
    p : ℕ → Bool
    p = λ i. is_relocatable given (xs.row i)

    go : (o : Option ℕ) → nth_below xs.count p k ≡ o → then (row_at xs o) relocatable_of ≡ some r → k < count_below xs.count p
    go none q n = absurd (let never : ⊥ = cc in never)
    go (some i) q n = let (l, t, c) = nth_says xs.count p k i q in let m = count_lt i xs.count p l t in omega arith

-- a count that may be too high where the room is enough for it decides 37 as the count itself
pub room_same : (n r many : ℕ) → many ≤ r → (n / 64 < r → r ≡ many) → ltb (n / 8) (8 * r) ≡ ltb (n / 8) (8 * many)
room_same n r many least more =
    ltb_same (n / 8) (8 * r) (n / 8) (8 * many) (λ h. let e = more (omega arith) in omega arith) (λ h. omega arith)

module _ (l : Limits) (s : List ℕ) (given : ℕ) where
  -- a query that is not refused is of a readable sheet
  query_readable : is_refusal (query_refusal l s given) ≡ false → Readable l s
  unfolding query_refusal
  query_readable h = accepted_readable l s (or_false_parts (is_refusal (verdict_refusal l s)) _ (rw else_refusal at h)).0

  -- what every query is refused by, then a refusal of its own
  both : (own : Refusal) → or_else (verdict_refusal l s) (or_else (in_row 0 (mask_fault given)) own) ≡ or_else (query_refusal l s given) own
  unfolding query_refusal
  both own =
      elim (which (is_refusal (verdict_refusal l s))) [
        | inl e ↦ or_else_first _ _ e ∙ sym (ap (λ r. or_else r own) (or_else_first _ _ e) ∙ or_else_first _ _ e)
        | inr e ↦ or_else_later _ _ e ∙ sym (ap (λ r. or_else r own) (or_else_later _ _ e))
      ]

  -- a call that is not refused is of a readable sheet
  pub list_readable : (n : ℕ) → is_refusal (relocations_refusal l s given n) ≡ false → Readable l s
  list_readable n h = accepted_readable l s (list_says l s given n h).0

  pub check_readable : (region : ℕ) → is_refusal (check_refusal l s given region) ≡ false → Readable l s
  unfolding check_refusal
  check_readable region h = query_readable (or_false_parts (is_refusal (query_refusal l s given)) _ (rw (both, else_refusal) at h)).0

  -- ---- the region list

  pub list_stops : (n : ℕ) (r : Refusal) → Stops r (query_refusal l s given) → Stops r (relocations_refusal l s given n)
  unfolding relocations_refusal
  list_stops n r h = let (e, t) = else_stops (query_refusal l s given) (in_row 0 (words_fault (regions_of s given) n)) r h in (e ∙ sym (both _), rw both t)

  pub list_37 : (n : ℕ) (r : Refusal) → query_refusal l s given ≡ no_refusal → n / 8 < 8 * regions_of s given → r ≡ refusal 37 0 0 → Stops r (relocations_refusal l s given n)
  unfolding relocations_refusal words_fault
  list_37 n r q h e =
      let (a, t) = own_stops (query_refusal l s given) 36 (ltb (n / 8) (8 * regions_of s given)) q (lt-ltb _ _ h) r e in
      (a ∙ sym (both _), rw both t)

  pub list_passes : (n : ℕ) → query_refusal l s given ≡ no_refusal → 8 * regions_of s given ≤ n / 8 → relocations_refusal l s given n ≡ no_refusal
  unfolding relocations_refusal words_fault
  list_passes n q h = both _ ∙ own_passes (query_refusal l s given) 36 (ltb (n / 8) (8 * regions_of s given)) q (le-ltb _ _ h)

  -- 37 by a count that may be too high where the room is enough for it
  module _ (n count : ℕ) (q : query_refusal l s given ≡ no_refusal) (least : regions_of s given ≤ count) (more : n / 64 < count → count ≡ regions_of s given) where
    pub counted_37 : (r : Refusal) → ltb (n / 8) (8 * count) ≡ true → r ≡ refusal 37 0 0 → Stops r (relocations_refusal l s given n)
    counted_37 r t e = list_37 n r q (ltb-true _ _ (rw (room_same n count (regions_of s given) least more) at t)) e

    pub counted_passes : ltb (n / 8) (8 * count) ≡ false → relocations_refusal l s given n ≡ no_refusal
    counted_passes f = list_passes n q (ltb-false _ _ (rw (room_same n count (regions_of s given) least more) at f))

  -- a refusal: nothing is found, and the lent bytes are as they were
  pub refused_answer : (n : ℕ) → is_refusal (relocations_refusal l s given n) ≡ true → found_of 0 none (relocations_refusal l s given n) ≡ relocations_of l s given n
  unfolding relocations_of
  refused_answer n h = rw h

  pub refused_words : (b : List ℕ) → is_refusal (relocations_refusal l s given (length b)) ≡ true → b ≡ words_after l s given b
  unfolding words_after
  refused_words b h = rw (← refused_answer (length b) h) (sym (rows_none _ b))

  -- no refusal is the refusal of number, row and detail 0
  pub none_refused : (n : ℕ) → is_refusal (relocations_refusal l s given n) ≡ false → relocations_refusal l s given n ≡ no_refusal
  unfolding relocations_refusal
  none_refused n h =
      let p = or_false_parts (is_refusal (query_refusal l s given)) _ (rw (both, else_refusal) at h) in
      both _ ∙ or_else_later _ _ p.0 ∙ no_fault_row 0 _ (rw row_refusal_lem at p.1)

  pub found_answer : (n : ℕ) → is_refusal (relocations_refusal l s given n) ≡ false
      → found_of (regions_of s given) (page_table_at (sheet_initializations s) given) no_refusal ≡ relocations_of l s given n
  unfolding relocations_of
  found_answer n h = rw (h, none_refused n h)

  -- eight words a region are lent
  pub room : (n : ℕ) → is_refusal (relocations_refusal l s given n) ≡ false → 64 * regions_of s given ≤ n
  room n h = omega (arith, (list_says l s given n h).2)

  pub found_words : (b : List ℕ) → is_refusal (relocations_refusal l s given (length b)) ≡ false
      → rows_put (regions_of s given) (λ n. region_words (region_at (sheet_initializations s) given n)) b ≡ words_after l s given b
  unfolding words_after
  found_words b h = rw (← found_answer (length b) h, found_count)

  -- ---- checks on one region

  pub check_stops : (region : ℕ) (r : Refusal) → Stops r (query_refusal l s given) → Stops r (check_refusal l s given region)
  unfolding check_refusal
  check_stops region r h = let (e, t) = else_stops (query_refusal l s given) (in_row 0 (region_fault (regions_of s given) region)) r h in (e ∙ sym (both _), rw both t)

  pub check_36 : (region : ℕ) (r : Refusal) → query_refusal l s given ≡ no_refusal → none ≡ region_at (sheet_initializations s) given region → r ≡ refusal 36 0 0
      → Stops r (check_refusal l s given region)
  unfolding check_refusal region_fault
  check_36 region r q h e =
      let beyond : ltb region (regions_of s given) ≡ false = elim (dec_lt region (regions_of s given)) [ yes m ↦ absurd (region_there s given region m (sym h)) | no m ↦ le-ltb _ _ (omega arith) ] in
      let (a, t) = own_stops (query_refusal l s given) 35 (not (ltb region (regions_of s given))) q (rw beyond refl) r e in
      (a ∙ sym (both _), rw both t)

  pub check_passes : (region : ℕ) (r : IgvmRelocatableRegion) → query_refusal l s given ≡ no_refusal → some r ≡ region_at (sheet_initializations s) given region
      → check_refusal l s given region ≡ no_refusal
  unfolding check_refusal region_fault
  check_passes region r q h =
      let m = region_below (sheet_initializations s) given region r (sym h) in
      both _ ∙ own_passes (query_refusal l s given) 35 (not (ltb region (regions_of s given))) q (rw (lt-ltb _ _ m) refl)

  pub checked : (p : IgvmRelocatableRegion → Bool) (region : ℕ) (r : IgvmRelocatableRegion) → check_refusal l s given region ≡ no_refusal
      → region_at (sheet_initializations s) given region ≡ some r → record { refusal = no_refusal; holds = p r } ≡ check_of p l s given region
  unfolding check_of
  checked p region r n e = rw (not_refused _ n, n, e)

  pub check_refused : (p : IgvmRelocatableRegion → Bool) (region : ℕ) (r : Refusal) → Stops r (check_refusal l s given region)
      → record { refusal = r; holds = false } ≡ check_of p l s given region
  unfolding check_of
  check_refused p region r (e, t) = rw (t, e)

  -- ---- 50, after the refusals of a check

  pub range_stops : (region lowest highest : ℕ) (r : Refusal) → Stops r (check_refusal l s given region) → Stops r (range_refusal l s given region lowest highest)
  unfolding range_refusal
  range_stops region lowest highest r h = else_stops (check_refusal l s given region) (in_row 0 (range_fault lowest highest)) r h

  pub range_50 : (region lowest highest : ℕ) (r : Refusal) → check_refusal l s given region ≡ no_refusal → ltb highest lowest ≡ true → r ≡ refusal 50 0 0
      → Stops r (range_refusal l s given region lowest highest)
  unfolding range_refusal range_fault
  range_50 region lowest highest r q t e = own_stops (check_refusal l s given region) 49 (ltb highest lowest) q t r e

  pub range_passes : (region lowest highest : ℕ) → check_refusal l s given region ≡ no_refusal → ltb highest lowest ≡ false → range_refusal l s given region lowest highest ≡ no_refusal
  unfolding range_refusal range_fault
  range_passes region lowest highest q f = own_passes (check_refusal l s given region) 49 (ltb highest lowest) q f

  pub range_readable : (region lowest highest : ℕ) → is_refusal (range_refusal l s given region lowest highest) ≡ false → Readable l s
  unfolding range_refusal
  range_readable region lowest highest h = check_readable region (or_false_parts (is_refusal (check_refusal l s given region)) _ (rw else_refusal at h)).0

-- ---- a named answer of one region, 0 where the call is refused

none_found : (f : IgvmRelocatableRegion → ℕ) (r : rust.Option IgvmRelocatableRegion) → r ≡ None → answer_for f (option_of r) ≡ 0
none_found f r e = rw e

found_answers : (f : IgvmRelocatableRegion → ℕ) (r : rust.Option IgvmRelocatableRegion) (q : IgvmRelocatableRegion) → r ≡ Some q → answer_for f (option_of r) ≡ f q
found_answers f r q e = rw e

module _ (s : List ℕ) (given region : ℕ) (refusal : Refusal) (f : IgvmRelocatableRegion → ℕ) where
  abbrev answer_unless : Answered
  answer_unless = answered refusal (cond (is_refusal refusal) 0 (answer_for f (region_at (sheet_initializations s) given region)))

  pub answer_refused : is_refusal refusal ≡ true → answered refusal 0 ≡ answer_unless
  answer_refused h = rw h

  module _ (r : rust.Option IgvmRelocatableRegion) (h : is_refusal refusal ≡ false) (e : option_of r ≡ region_at (sheet_initializations s) given region) where
    pub answer_none : r ≡ None → answered refusal 0 ≡ answer_unless
    answer_none n = rw (h, ← e, none_found f r n)

    pub answer_given : (q : IgvmRelocatableRegion) → r ≡ Some q → answered refusal (f q) ≡ answer_unless
    answer_given q n = rw (h, ← e, found_answers f r q n)
