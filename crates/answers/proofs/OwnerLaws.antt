-- The owner of an address and the index of a mask's regions, of a sheet: what refuses them, what stands in the lent bytes afterwards,
-- and that the lookup in an index is the reading of all rows.
use Rattle.rows.{proofs.Kit.{◌≡◌, refl, sym, ◌∙◌, Bool, true, false, cond, ◌≢◌, ◌↔◌, inl, inr, List, length, get_or, Option, none, some, ℕ, ◌+◌, ◌*◌, ◌/◌, ◌≤◌, ◌<◌, zero-add, dec_lt, arith, eqb, ltb, eqb-false, ne_eqb, ltb-true, ltb-false, lt-ltb, le-ltb, lt-leb}, specs.Below.first_below, proofs.Bools.{which, not_both, is_false, or_right, or_cases}, proofs.BelowLaws.{first_none, first_says}}
use Rattle.igvm_defs.{specs.Refusals.{refusal, no_refusal, no_fault, is_fault, is_refusal, in_row, or_else}, proofs.RefusalLaws.{no_fault_lem, no_fault_row, row_refusal_lem, or_else_first, or_else_later}}
use Rattle.addresses.specs.Addresses.{contains}
use Rattle.le.specs.Le.{le_at}
use Rattle.lent.{specs.Lent.words_put, proofs.LentLaws.{words_none, words_length, words_keep, put_word_is}}
use Rattle.sheet.specs.Head.{Limits}
use Rattle.sheet_headers.specs.Headers.{sheet_headers}
use Rattle.rules.{specs.declared.Region.Region, specs.Headers.Headers, specs.Accepted.NotRefused, specs.Regions.{region_of, region_passes}, specs.Owner.{owns_address, number_of_row, owner_of, index_count, starts_below, by_start, index_word}, proofs.RegionLaws.region_passes_lem, proofs.FaultLaws.{refuse_none, else_none}, proofs.SoundLaws.accepted_sound, proofs.OwnerLaws.{owns_says, owner_once, owner_is, owner_none, place_below, starts_ascend, start_word, size_word, row_word, by_start_is, by_start_some, place_small}}
use Rattle.answers.specs.{Verdict.verdict_refusal, Relocations.{sheet_initializations, mask_fault, query_refusal}, Owner.{region_owner_of, index_fault, index_refusal, region_index_of, index_after, start_in, size_in, row_in, ends_at, answer_at, region_in}}
use Rattle.answers.proofs.AnswerLaws.{answered, accepted_headers}

-- ---- what refuses them

module _ (l : Limits) (s : List ℕ) where
  -- MASK 0 IS REFUSED BY THE VERDICT'S REFUSAL, ELSE BY 35
  pub mask_zero : query_refusal l s 0 ≡ cond (is_refusal (verdict_refusal l s)) (verdict_refusal l s) (refusal 35 0 0)
  unfolding query_refusal mask_fault or_else in_row is_fault
  mask_zero = refl

module _ (l : Limits) (s : List ℕ) (given : ℕ) where
  -- not refused: the file is accepted and the mask is not 0
  pub query_says : (is_refusal (query_refusal l s given) ≡ false) ↔ ((is_refusal (verdict_refusal l s) ≡ false) × (given ≢ 0))
  unfolding query_refusal mask_fault
  query_says = (
    λ e.
        let (v, m) = (else_none (verdict_refusal l s) _).0 e in
        (v, eqb-false given 0 ((refuse_none (eqb given 0) 34 0 no_fault).0 (rw row_refusal_lem at m)).0),
    λ (v, n).
        let m : is_fault (mask_fault given) ≡ false = rw (ne_eqb given 0 n) no_fault_lem in
        (else_none (verdict_refusal l s) _).1 (v, row_refusal_lem 0 (mask_fault given) ∙ m),
  )

  pub query_none : is_refusal (query_refusal l s given) ≡ false → query_refusal l s given ≡ no_refusal
  unfolding query_refusal
  query_none e =
      let (v, m) = (else_none (verdict_refusal l s) _).0 e in
      or_else_later (verdict_refusal l s) _ v ∙ no_fault_row 0 (mask_fault given) (rw row_refusal_lem at m)

  -- THE OWNER: in a refusal 0, else the reading of all rows
  pub owner_refused : (gpa : ℕ) → is_refusal (query_refusal l s given) ≡ true → region_owner_of l s given gpa ≡ answered (query_refusal l s given) 0
  unfolding region_owner_of
  owner_refused gpa t = rw t

  pub owner_given : (gpa : ℕ) → is_refusal (query_refusal l s given) ≡ false
      → region_owner_of l s given gpa ≡ answered no_refusal (owner_of (sheet_headers s) given gpa)
  unfolding region_owner_of
  owner_given gpa e = rw (e, query_none e)

-- so mask 0 is refused, and by the same in either call
pub zero_refused : (l : Limits) (s : List ℕ) → is_refusal (query_refusal l s 0) ≡ true
zero_refused l s = elim (which (is_refusal (query_refusal l s 0))) [ inl e ↦ e | inr e ↦ absurd (((query_says l s 0).0 e).1 refl) ]

-- how many regions of either kind the mask has
abbrev pub owners_of : List ℕ → ℕ → ℕ
owners_of s given = index_count (sheet_initializations s) given

module _ (l : Limits) (s : List ℕ) (given bytes : ℕ) where
  -- an index is refused as the owner is, and else by 37 alone
  pub index_stops : is_refusal (query_refusal l s given) ≡ true → index_refusal l s given bytes ≡ query_refusal l s given
  unfolding index_refusal
  index_stops t = or_else_first (query_refusal l s given) _ t

  pub index_37 : is_refusal (query_refusal l s given) ≡ false → bytes / 8 < 3 * owners_of s given → index_refusal l s given bytes ≡ refusal 37 0 0
  unfolding index_refusal index_fault in_row is_fault
  index_37 q h = or_else_later (query_refusal l s given) _ q ∙ rw (lt-ltb (bytes / 8) (3 * owners_of s given) h)

  -- not refused: the owner is not, and three whole words are lent for each region
  pub index_says : (is_refusal (index_refusal l s given bytes) ≡ false) ↔ ((is_refusal (query_refusal l s given) ≡ false) × (3 * owners_of s given ≤ bytes / 8))
  unfolding index_refusal index_fault
  index_says = (
    λ e.
        let (q, w) = (else_none (query_refusal l s given) _).0 e in
        let (t, _) = (refuse_none (ltb (bytes / 8) (3 * owners_of s given)) 36 0 no_fault).0 (sym (row_refusal_lem 0 (index_fault (owners_of s given) bytes)) ∙ w) in
        (q, ltb-false (bytes / 8) (3 * owners_of s given) t),
    λ (q, h).
        let w : is_fault (index_fault (owners_of s given) bytes) ≡ false = rw (le-ltb (bytes / 8) (3 * owners_of s given) h) no_fault_lem in
        (else_none (query_refusal l s given) _).1 (q, row_refusal_lem 0 (index_fault (owners_of s given) bytes) ∙ w),
  )

  pub index_none : is_refusal (index_refusal l s given bytes) ≡ false → index_refusal l s given bytes ≡ no_refusal
  unfolding index_refusal
  index_none e =
      let (q, w) = (else_none (query_refusal l s given) _).0 e in
      or_else_later (query_refusal l s given) _ q
      ∙ no_fault_row 0 (index_fault (owners_of s given) bytes) (sym (row_refusal_lem 0 (index_fault (owners_of s given) bytes)) ∙ w)

  -- THE INDEX: in a refusal count 0, else the count of the mask's regions
  pub index_refused : is_refusal (index_refusal l s given bytes) ≡ true → region_index_of l s given bytes ≡ answered (index_refusal l s given bytes) 0
  unfolding region_index_of
  index_refused t = rw t

  pub index_given : is_refusal (index_refusal l s given bytes) ≡ false → region_index_of l s given bytes ≡ answered no_refusal (owners_of s given)
  unfolding region_index_of
  index_given e = rw (e, index_none e)

  -- no byte is needed where the mask has no region
  pub index_empty : is_refusal (query_refusal l s given) ≡ false → owners_of s given ≡ 0 → region_index_of l s given bytes ≡ answered no_refusal 0
  index_empty q e = index_given (index_says.1 (q, omega arith)) ∙ rw e

-- ---- the lent bytes

module _ (l : Limits) (s : List ℕ) (given : ℕ) (b : List ℕ) where
  -- as many bytes as were lent
  pub after_length : length (index_after l s given b) ≡ length b
  unfolding index_after
  after_length = words_length 0 _ _ b

  -- REFUSED: nothing lent changes
  pub refused_bytes : is_refusal (index_refusal l s given (length b)) ≡ true → index_after l s given b ≡ b
  unfolding index_after region_index_of
  refused_bytes t = rw t (words_none 0 (index_word (sheet_headers s) given) b)

  -- bytes behind the three words of each region keep their contents, refused or not
  pub bytes_behind : (j : ℕ) → 24 * owners_of s given ≤ j → get_or (index_after l s given b) j 0 ≡ get_or b j 0
  unfolding index_after region_index_of
  bytes_behind j h = go (is_refusal (index_refusal l s given (length b)))
    where
      go : (t : Bool) → get_or (words_put 0 (3 * cond t 0 (owners_of s given)) (index_word (sheet_headers s) given) b) j 0 ≡ get_or b j 0
      go true = words_keep 0 0 (index_word (sheet_headers s) given) b j (omega arith)
      go false = words_keep 0 (3 * owners_of s given) (index_word (sheet_headers s) given) b j (rw zero-add (omega arith))

  -- NOT REFUSED: word w is the index's, where it is below 2^64
  pub word_there : is_refusal (index_refusal l s given (length b)) ≡ false → (w : ℕ) → w < 3 * owners_of s given
      → index_word (sheet_headers s) given w < 18446744073709551616 → le_at 8 (index_after l s given b) (8 * w) ≡ index_word (sheet_headers s) given w
  unfolding index_after region_index_of
  word_there e w below small =
      let (_, room) = (index_says l s given (length b)).0 e in
      rw e
      (rw zero-add at (put_word_is 0 (3 * owners_of s given) w (index_word (sheet_headers s) given) b (rw zero-add (omega arith)) below (rw zero-add small)))

  -- so are the start and the size at place k
  pub place_there : is_refusal (index_refusal l s given (length b)) ≡ false → (k : ℕ) → k < owners_of s given
      → (start_in (index_after l s given b) k ≡ index_word (sheet_headers s) given (3 * k))
      × (size_in (index_after l s given b) k ≡ index_word (sheet_headers s) given (3 * k + 1))
  place_there e k below =
      let (q, _) = (index_says l s given (length b)).0 e in
      let (v, n) = (query_says l s given).0 q in
      let (start, size) = place_small (sheet_headers s) (accepted_headers l s v) given n k below in
      let y : 24 * k ≡ 8 * (3 * k) = omega arith in
      let z : 24 * k + 8 ≡ 8 * (3 * k + 1) = omega arith in
      (rw y (word_there e (3 * k) (omega arith) start), rw z (word_there e (3 * k + 1) (omega arith) size))

-- ---- the lookup in the words of an index

-- the words are those of the mask's index, and no more
pub record IndexIn (words : List ℕ) (f : Headers) (given : ℕ) : Type 0 where
  pub long : length words / 24 ≡ index_count f.initializations given
  pub word : (w : ℕ) → w < 3 * index_count f.initializations given → le_at 8 words (8 * w) ≡ index_word f given w

module _ (f : Headers) (given : ℕ) (words : List ℕ) (filled : IndexIn words f given) (k i : ℕ) (r : Region) (below : k < index_count f.initializations given)
    (place : by_start f.initializations given k ≡ some i) (region : region_of (f.initializations.row i) ≡ some r) where
  start_at : start_in words k ≡ r.gpa
  start_at =
      let z : 24 * k ≡ 8 * (3 * k) = omega arith in
      rw z (filled.word (3 * k) (omega arith) ∙ start_word f given k i r place region)

  size_at : size_in words k ≡ r.size
  size_at =
      let z : 24 * k + 8 ≡ 8 * (3 * k + 1) = omega arith in
      rw z (filled.word (3 * k + 1) (omega arith) ∙ size_word f given k i r place region)

  row_at_lem : row_in words k ≡ number_of_row f (some i)
  row_at_lem =
      let z : 24 * k + 16 ≡ 8 * (3 * k + 2) = omega arith in
      rw z (filled.word (3 * k + 2) (omega arith) ∙ row_word f given k i r place region)

module _ (f : Headers) (accepted : NotRefused f) (given : ℕ) (nonzero : given ≢ 0) (words : List ℕ) (filled : IndexIn words f given) (gpa : ℕ) where
  owns : ℕ → Bool
  owns i = region_passes (owns_address given gpa) (f.initializations.row i)

  holds : ℕ → Bool
  holds k = contains (start_in words k) (size_in words k) gpa

  -- a row that owns the address has a place, whose region contains it
  owner_place : (i : ℕ) → i < f.initializations.count → owns i ≡ true → (k : ℕ) × (k < index_count f.initializations given) × (holds k ≡ true)
  unfolding owns holds
  owner_place i l t =
      let (r, o, a) = (region_passes_lem (owns_address given gpa) (f.initializations.row i)).0 t in
      let (m, c) = (owns_says given gpa r).0 a in
      let k = starts_below f.initializations given r.gpa in
      let b = place_below f.initializations given i r l o m in
      let e = by_start_is f accepted given nonzero i r l o m k refl in
      (k, b, rw (start_at f given words filled k i r b e o, size_at f given words filled k i r b e o) c)

  -- and where a place's region contains it, the place's row is the owner
  place_owner : (k : ℕ) → k < index_count f.initializations given → holds k ≡ true → row_in words k ≡ owner_of f given gpa
  unfolding holds
  place_owner k l t =
      let (i, r, e, m, _) = by_start_some f accepted given nonzero k l in
      let c : contains r.gpa r.size gpa ≡ true =
      rw (start_at f given words filled k i r l e m.region, size_at f given words filled k i r l e m.region) at t in
      row_at_lem f given words filled k i r l e m.region
      ∙ sym (owner_is f given gpa (owner_once f (accepted_sound f accepted) given nonzero gpa) i m.below
      ((region_passes_lem (owns_address given gpa) (f.initializations.row i)).1 (r, m.region, (owns_says given gpa r).1 (m.matching, c))))

  no_owner : ((k : ℕ) → k < index_count f.initializations given → holds k ≡ false) → owner_of f given gpa ≡ 0
  unfolding owns
  no_owner h =
      owner_none f given gpa (λ i l. is_false (owns i) (λ t. let (k, b, c) = owner_place i l t in not_both (h k b) c))

  -- a region that starts above the address does not contain it, and neither does one behind it
  above : (j k : ℕ) → j ≤ k → k < index_count f.initializations given → gpa < start_in words j → holds k ≡ false
  unfolding holds contains
  above j k l b a =
      let (i, r, e, m, _) = by_start_some f accepted given nonzero j (omega arith) in
      let (n, q, g, w, _) = by_start_some f accepted given nonzero k b in
      let s = start_at f given words filled j i r (omega arith) e m.region in
      let t = start_at f given words filled k n q b g w.region in
      let rises : start_in words j ≤ start_in words k =
      elim (dec_lt j k) [
        | yes c ↦ let u = starts_ascend f.initializations given j k i n r q c e g m.region w.region in omega arith
        | no c ↦ let u : j ≡ k = omega arith in rw u (omega arith)
      ] in
      rw (lt-leb (start_in words k) gpa (omega arith))

  -- THE LOOKUP IN AN INDEX IS THE READING OF ALL ROWS
  pub index_owner : region_in words gpa ≡ owner_of f given gpa
  unfolding region_in holds
  index_owner = rw filled.long (go (first_below n (ends_at words gpa)) refl)
    where
      n : ℕ
      n = index_count f.initializations given

      late : (k : ℕ) → k < n → ends_at words gpa k ≡ true → ltb gpa (start_in words k) ≡ false → row_in words k ≡ owner_of f given gpa
      late k l t b =
          elim (or_cases (ltb gpa (start_in words k)) (holds k) t) [
            | inl e ↦ not_both b e
            | inr e ↦ place_owner k l e
          ]

      early : (k : ℕ) → k < n → ((j : ℕ) → j < k → ends_at words gpa j ≡ false) → gpa < start_in words k → (j : ℕ) → j < n → holds j ≡ false
      early k l none_before a j b =
          elim (dec_lt j k) [
            | yes c ↦ is_false (holds j) (λ h. not_both (none_before j c) (or_right (ltb gpa (start_in words j)) (holds j) h))
            | no c ↦ above k j (omega arith) b a
          ]

      go : (o : Option ℕ) → first_below n (ends_at words gpa) ≡ o → answer_at words gpa o ≡ owner_of f given gpa
      go none e =
          sym (no_owner (λ k l. is_false (holds k) (λ h.
          not_both ((first_none n (ends_at words gpa)).0 e k l) (or_right (ltb gpa (start_in words k)) (holds k) h))))
      go (some k) e =
          let (l, t, none_before) = first_says n (ends_at words gpa) k e in
          elim (which (ltb gpa (start_in words k))) [
            | inl b ↦ rw b (sym (no_owner (early k l none_before (ltb-true gpa (start_in words k) b))))
            | inr b ↦ rw b (late k l t b)
          ]
