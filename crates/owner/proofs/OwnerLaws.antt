-- What is looked up in the regions that the verdict has kept, in order of their starts, is what a reading of all rows finds.
use Rattle.rows.{proofs.Kit.{◌≡◌, refl, sym, ◌∙◌, Bool, true, false, cond, ◌&&◌, ◌≢◌, ◌⊎◌, inl, inr, and-false, List, Option, none, some, ℕ, ◌+◌, ◌-◌, ◌*◌, ◌≤◌, ◌<◌, arith, eq-or-lt_of_le, eqb, eqb-true, eq-eqb, ltb, lt-ltb, le-ltb, get_or}, specs.Below.{any_below, first_below, count_below}, specs.Rows.{any, count_of}, proofs.Bools.{and_parts, and_both}, proofs.BelowLaws.{some_below, none_any, first_any, first_says, count_lt, count_none, count_same_tests, sum_split}}
use Rattle.masks.specs.Masks.{matches}
use Rattle.rules.{specs.declared.Region.Region, specs.Headers.Headers, specs.Regions.{region_passes}, specs.Accepted.NotRefused, specs.Sound.MatchingRegion, specs.Owner.{is_of_mask, owns_address, owner_of, index_count, starts_below, index_word}, proofs.RegionLaws.region_passes_lem, proofs.SoundLaws.accepted_sound, proofs.OwnerLaws.{owner_once, owner_is, owner_none, starts_differ, by_start_is, start_word, size_word, row_word, count_one_most}}
use Rattle.by_start.{specs.declared.KeptRegions.KeptRegions, specs.ByStart.{in_order, ByStart, owned, owned_row}, proofs.OrderLaws.count_any, proofs.OwnerLaws.owns_in_place}
use Rattle.sheet.specs.Head.{limits}
use Rattle.sheet_headers.specs.Headers.{sheet_headers}
use Rattle.answers.proofs.AnswerLaws.{accepted_headers}
use Rattle.reloc_regions.specs.{declared.RelocRegions.RelocRegions, Regions.entry}
use Rattle.initialization_check.specs.Record.{HoldsRegions, HoldsRows}
use Rattle.query.specs.KeptFor.{KeptFor}

-- in an accepted file, whose regions are held, each with its row, and in order of start
module _ {N : ℕ} (f : Headers) (held : RelocRegions N) (rows next : List ℕ) (given : ℕ) (accepted : NotRefused f) (nonzero : given ≢ 0) (regions : HoldsRegions held f.initializations)
    (numbers : HoldsRows f.platforms.count rows held f.initializations) (by : ByStart next held.gpa held.count) where
  abbrev masks : List ℕ
  masks = held.mask

  abbrev gpas : List ℕ
  gpas = held.gpa

  abbrev sizes : List ℕ
  sizes = held.size

  abbrev n : ℕ
  n = held.count

  -- the region in place k + 1, from 0
  abbrev at : ℕ → ℕ
  at k = in_order next (k + 1) - 1

  at_below : (k : ℕ) → k < n → at k < n
  at_below k l = let (a, b) = by.each k l in omega arith

  -- ---- the owner of an address

  pub owner_found : (gpa : ℕ) → owned_row masks gpas sizes rows next n given gpa ≡ owner_of f given gpa
  unfolding owned_row owns_address
  owner_found gpa = go (first_below n (owns_in_place masks gpas sizes next given gpa)) refl
    where
      none_owns : any_below n (owned masks gpas sizes given gpa) ≡ false → any (region_passes (owns_address given gpa)) f.initializations ≡ false
      none_owns e = sym (regions.same (owns_address given gpa)) ∙ e

      go : (o : Option ℕ) → first_below n (owns_in_place masks gpas sizes next given gpa) ≡ o → owned_row masks gpas sizes rows next n given gpa ≡ owner_of f given gpa
      go none e =
          let no = (first_any n (owns_in_place masks gpas sizes next given gpa)).0 e in
          let same = count_any n (owns_in_place masks gpas sizes next given gpa) (owned masks gpas sizes given gpa) (by.counts (owned masks gpas sizes given gpa)) in
          let rowless = (none_any f.initializations.count (λ i. region_passes (owns_address given gpa) (f.initializations.row i))).0 (none_owns (sym same ∙ no)) in
          rw e (sym (owner_none f given gpa rowless))
      go (some k) e =
          let (l, owns, _) = first_says n (owns_in_place masks gpas sizes next given gpa) k e in
          let (i, r) = numbers.each (at k) (at_below k l) in
          let once = owner_once f (accepted_sound f accepted) given nonzero gpa in
          rw e (r.number ∙ sym (owner_is f given gpa once i r.below ((region_passes_lem (owns_address given gpa) (f.initializations.row i)).1 (entry held (at k), r.region, owns))))

  -- ---- the order of starts

  abbrev of_mask : ℕ → Bool
  of_mask e = matches given (get_or masks e 0)

  -- the test of a region of the mask that starts at g
  abbrev starts_at : ℕ → Region → Bool
  starts_at g r = is_of_mask given r && eqb r.gpa g

  one_start : (g : ℕ) → count_of (region_passes (starts_at g)) f.initializations ≤ 1
  one_start g = go (any_below count test) refl
    where
      count : ℕ
      count = f.initializations.count

      test : ℕ → Bool
      test i = region_passes (starts_at g) (f.initializations.row i)

      matching : (i : ℕ) → i < count → test i ≡ true → (r : Region) × MatchingRegion f given i r × (r.gpa ≡ g)
      matching i l t =
          let (r, e, p) = (region_passes_lem (starts_at g) (f.initializations.row i)).0 t in
          let (m, s) = and_parts (is_of_mask given r) (eqb r.gpa g) p in
          (r, record { below = l; region = e; matching = m }, eqb-true r.gpa g s)

      go : (b : Bool) → any_below count test ≡ b → count_below count test ≤ 1
      go false e = let z = count_none count test ((none_any count test).0 e) in omega arith
      go true e =
          let (i, l, t) = some_below count test e in
          let (r, m, s) = matching i l t in
          let none_else : (j : ℕ) → j < count → j ≢ i → test j ≡ true → false ≡ true =
          λ j h d u. let (q, o, v) = matching j h u in absurd (starts_differ f accepted given nonzero j i q r o m d (v ∙ sym s)) in
          let most = count_one_most (λ _. false) test count i none_else in
          let z = count_none count (λ _. false) (λ j h. refl) in
          omega arith

  -- of two regions of the mask the later in order starts above the earlier
  starts_rise_on : (j k : ℕ) → j < k → k < n → of_mask (at j) ≡ true → of_mask (at k) ≡ true → get_or gpas (at j) 0 < get_or gpas (at k) 0
  starts_rise_on j k l h a b = go (eq-or-lt_of_le (by.rises j k (omega arith) h))
    where
      test : ℕ → Bool
      test e = starts_at (get_or gpas (at k) 0) (entry held e)

      go : (get_or gpas (at j) 0 ≡ get_or gpas (at k) 0) ⊎ (get_or gpas (at j) 0 < get_or gpas (at k) 0) → get_or gpas (at j) 0 < get_or gpas (at k) 0
      go (inr m) = m
      go (inl q) =
          let tj : test (at j) ≡ true = and_both (of_mask (at j)) (eqb (get_or gpas (at j) 0) (get_or gpas (at k) 0)) a (eq-eqb (get_or gpas (at j) 0) (get_or gpas (at k) 0) q) in
          let tk : test (at k) ≡ true = and_both (of_mask (at k)) (eqb (get_or gpas (at k) 0) (get_or gpas (at k) 0)) b (eq-eqb (get_or gpas (at k) 0) (get_or gpas (at k) 0) refl) in
          let u = count_lt j k (λ i. test (at i)) l tj in
          let v = count_lt k n (λ i. test (at i)) h tk in
          let c = by.counts test in
          let d = numbers.counts (starts_at (get_or gpas (at k) 0)) in
          let m = one_start (get_or gpas (at k) 0) in
          absurd (omega (arith, u, v, c, d, m))

  -- as many regions of the mask start below the region in place k + 1 as stand before it
  pub places_below : (k : ℕ) → k < n → of_mask (at k) ≡ true → starts_below f.initializations given (get_or gpas (at k) 0) ≡ count_below k (λ j. of_mask (at j))
  unfolding starts_below
  places_below k l m =
      let g = get_or gpas (at k) 0 in
      let below : Region → Bool = λ (r : Region). is_of_mask given r && ltb r.gpa g in
      let c = numbers.counts below in
      let d = by.counts (λ e. below (entry held e)) in
      let e : k + (n - k) ≡ n = omega arith in
      let whole = sum_split k (n - k) (λ i. cond (below (entry held (at i))) 1 0) in
      let early = count_same_tests k (λ i. below (entry held (at i))) (λ j. of_mask (at j)) (λ i h. early_same i h (of_mask (at i)) refl) in
      let late = count_none (n - k) (λ i. below (entry held (at (k + i)))) (λ i h. late_none (k + i) (omega arith) (omega arith)) in
      let split = rw e at whole in
      omega (arith, c, d, split, early, late)
    where
      early_same : (i : ℕ) → i < k → (b : Bool) → of_mask (at i) ≡ b → (of_mask (at i) && ltb (get_or gpas (at i) 0) (get_or gpas (at k) 0)) ≡ of_mask (at i)
      early_same i h true e = rw (e, lt-ltb (get_or gpas (at i) 0) (get_or gpas (at k) 0) (starts_rise_on i k h l e m))
      early_same i h false e = rw e

      late_none : (i : ℕ) → k ≤ i → i < n → (of_mask (at i) && ltb (get_or gpas (at i) 0) (get_or gpas (at k) 0)) ≡ false
      late_none i a b = rw (le-ltb (get_or gpas (at i) 0) (get_or gpas (at k) 0) (by.rises k i a b)) (and-false (of_mask (at i)))

  -- the three words of the region in place k + 1, where it is of the mask
  pub words_of : (k : ℕ) → k < n → of_mask (at k) ≡ true → (c : ℕ) → c ≡ count_below k (λ j. of_mask (at j))
      → (index_word f given (3 * c) ≡ get_or gpas (at k) 0) × (index_word f given (3 * c + 1) ≡ get_or sizes (at k) 0) × (index_word f given (3 * c + 2) ≡ get_or rows (at k) 0)
  words_of k l m c e =
      let (i, r) = numbers.each (at k) (at_below k l) in
      let place = by_start_is f accepted given nonzero i (entry held (at k)) r.below r.region m c (places_below k l m ∙ sym e) in
      (start_word f given c i (entry held (at k)) place r.region, size_word f given c i (entry held (at k)) place r.region, row_word f given c i (entry held (at k)) place r.region ∙ sym r.number)

  -- how many regions the mask has
  pub count_found : count_below n of_mask ≡ index_count f.initializations given
  unfolding index_count
  count_found = numbers.counts (is_of_mask given)

-- ---- after a query for a mask that is not refused, of the sheet's regions

module _ {N M : ℕ} (s : List ℕ) (given : ℕ) (kept : KeptRegions N M) (stands : KeptFor s given kept) where
  abbrev headers : NotRefused (sheet_headers s)
  headers = accepted_headers limits s stands.accepted

  pub kept_owner : (gpa : ℕ) → owned_row kept.regions.mask kept.regions.gpa kept.regions.size kept.rows kept.order.next kept.regions.count given gpa ≡ owner_of (sheet_headers s) given gpa
  kept_owner gpa = owner_found (sheet_headers s) kept.regions kept.rows kept.order.next given headers stands.nonzero stands.regions.regions stands.regions.rows stands.regions.order gpa

  -- the region in place k + 1
  pub kept_words : (k : ℕ) → k < kept.regions.count → matches given (get_or kept.regions.mask (in_order kept.order.next (k + 1) - 1) 0) ≡ true
      → (c : ℕ) → c ≡ count_below k (λ j. matches given (get_or kept.regions.mask (in_order kept.order.next (j + 1) - 1) 0))
      → (index_word (sheet_headers s) given (3 * c) ≡ get_or kept.regions.gpa (in_order kept.order.next (k + 1) - 1) 0)
      × (index_word (sheet_headers s) given (3 * c + 1) ≡ get_or kept.regions.size (in_order kept.order.next (k + 1) - 1) 0)
      × (index_word (sheet_headers s) given (3 * c + 2) ≡ get_or kept.rows (in_order kept.order.next (k + 1) - 1) 0)
  kept_words = words_of (sheet_headers s) kept.regions kept.rows kept.order.next given headers stands.nonzero stands.regions.regions stands.regions.rows stands.regions.order

  pub kept_count : count_below kept.regions.count (λ e. matches given (get_or kept.regions.mask e 0)) ≡ index_count (sheet_headers s).initializations given
  kept_count = count_found (sheet_headers s) kept.regions kept.rows kept.order.next given headers stands.nonzero stands.regions.regions stands.regions.rows stands.regions.order
