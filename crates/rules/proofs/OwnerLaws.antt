-- The owner of an address, and the regions of a mask in order of start: at most one region owns an address, no two start at one address,
-- and each region of the mask stands at one place below their count.
use Rattle.rows.{proofs.Kit.{◌≡◌, refl, sym, ap, ◌∙◌, Bool, true, false, cond, ◌&&◌, ◌≢◌, ◌↔◌, ◌⊎◌, inl, inr, Option, none, some, ℕ, zero, suc, ◌+◌, ◌*◌, ◌/◌, ◌%◌, ◌≤◌, ◌<◌, not-suc-le-zero, dec_lt, ℕ_discrete, arith, eqb, ltb, eqb-true, eqb-false, eq-eqb, le-leb, ltb-true, ltb-false, lt-ltb}, specs.Below.{any_below, first_below, sum_below, count_below}, specs.Rows.{Rows, Once}, proofs.Bools.{which, is_false, and_parts, and_both}, proofs.BelowLaws.{top, some_below, none_any, first_none, first_at, first_says, sum_le, count_none}}
use Rattle.addresses.specs.Addresses.{contains, ends_beyond}
use Rattle.initialization_header.specs.declared.IgvmInitializationHeader.{IgvmInitializationHeader}
use Rattle.rules.specs.{declared.Region.Region, Regions.{region_of, region_passes}, Initializations.{validate_initialization, wrong_policy_arch, own_initialization_fault}, Headers.Headers, Accepted.NotRefused, Sound.{MatchingRegion, Sound}, Owner.{is_of_mask, owns_address, number_of_row, owner_of, index_count, starts_below, is_in_place, by_start, indexed_row, index_word}}
use Rattle.igvm_defs.specs.{declared.Arch.Arch, Refusals.{no_fault, is_fault}}
use Rattle.rules.proofs.{RegionLaws.{region_passes_lem, region_fails}, FaultLaws.{refuse_none, or_none}, Acceptance.accepted_says, SoundLaws.accepted_sound}

-- ---- the owner

pub owns_says : (given gpa : ℕ) (r : Region) → (owns_address given gpa r ≡ true) ↔ ((is_of_mask given r ≡ true) × (contains r.gpa r.size gpa ≡ true))
unfolding owns_address
owns_says given gpa r = (
  and_parts (is_of_mask given r) (contains r.gpa r.size gpa),
  λ (m, c). and_both (is_of_mask given r) (contains r.gpa r.size gpa) m c,
)

-- at most one region of a nonzero mask owns an address
pub owner_once : (f : Headers) → Sound f → (given : ℕ) → given ≢ 0 → (gpa : ℕ) → Once (region_passes (owns_address given gpa)) f.initializations
owner_once f sound given n gpa i j l k g h = go (ℕ_discrete i j)
  where
    go : Dec (i ≡ j) → i ≡ j
    go (yes e) = e
    go (no d) =
        let (r, o, a) = (region_passes_lem (owns_address given gpa) (f.initializations.row i)).0 g in
        let (q, p, b) = (region_passes_lem (owns_address given gpa) (f.initializations.row j)).0 h in
        let (m, c) = (owns_says given gpa r).0 a in
        let (w, e) = (owns_says given gpa q).0 b in
        absurd (sound.apart given n i j r q (record { below = l; region = o; matching = m }) (record { below = k; region = p; matching = w }) d gpa c e)

module _ (f : Headers) (given gpa : ℕ) where
  -- row i owns the address
  abbrev pub owns : ℕ → Bool
  owns i = region_passes (owns_address given gpa) (f.initializations.row i)

  -- where one row at most owns the address, a row that does is the owner
  pub owner_is : Once (region_passes (owns_address given gpa)) f.initializations → (i : ℕ) → i < f.initializations.count → owns i ≡ true
      → owner_of f given gpa ≡ number_of_row f (some i)
  unfolding owner_of
  owner_is once i l g =
      rw (first_at f.initializations.count owns i l (λ j k. is_false (owns j) (λ h. let q = once j i (omega arith) l h g in omega arith)) g)

  pub owner_none : ((i : ℕ) → i < f.initializations.count → owns i ≡ false) → owner_of f given gpa ≡ 0
  unfolding owner_of
  owner_none h = rw ((first_none f.initializations.count owns).1 h)

  -- the row that is the owner owns the address
  pub owner_says : (i : ℕ) → owner_of f given gpa ≡ number_of_row f (some i) → (i < f.initializations.count) × (owns i ≡ true)
  unfolding owner_of
  owner_says i e = go (first_below f.initializations.count owns) refl e
    where
      go : (o : Option ℕ) → first_below f.initializations.count owns ≡ o → number_of_row f o ≡ number_of_row f (some i) → (i < f.initializations.count) × (owns i ≡ true)
      go none q n = absurd (omega arith)
      go (some j) q n =
          let (l, t, _) = first_says f.initializations.count owns j q in
          let z : j ≡ i = omega arith in
          (omega arith, rw z at t)

  -- where there is none, no row owns the address
  pub none_owns : owner_of f given gpa ≡ 0 → (i : ℕ) → i < f.initializations.count → owns i ≡ false
  unfolding owner_of
  none_owns e = go (first_below f.initializations.count owns) refl e
    where
      go : (o : Option ℕ) → first_below f.initializations.count owns ≡ o → number_of_row f o ≡ 0 → (i : ℕ) → i < f.initializations.count → owns i ≡ false
      go none q n = (first_none f.initializations.count owns).0 q
      go (some j) q n = absurd (omega arith)

-- ---- a region of an accepted file

-- 27 and 28: it has a size, and ends no higher than 2^64 - 1
pub region_sized : (arch : Arch) (h : IgvmInitializationHeader) → is_fault (own_initialization_fault arch h) ≡ false → (r : Region) → region_of h ≡ some r
    → (0 < r.size) × (r.gpa + r.size ≤ 18446744073709551615)
unfolding own_initialization_fault ends_beyond
region_sized arch h own r o =
    let (v, s) = (or_none (validate_initialization h) _).0 own in
    let (c24, s24) = (refuse_none (wrong_policy_arch arch h) 23 17 _).0 s in
    let (c27, s27) = (refuse_none (region_passes (λ q. eqb q.size 0) h) 26 0 _).0 s24 in
    let (c28, s28) = (refuse_none (region_passes (λ q. ends_beyond q.gpa q.size) h) 27 0 no_fault).0 s27 in
    let sized = eqb-false r.size 0 ((region_fails (λ q. eqb q.size 0) h).0 c27 r o) in
    let low = ltb-false 18446744073709551615 (r.gpa + r.size) ((region_fails (λ q. ends_beyond q.gpa q.size) h).0 c28 r o) in
    (omega arith, omega arith)

-- a region that has a size contains its start
pub start_in_lem : (r : Region) → 0 < r.size → contains r.gpa r.size r.gpa ≡ true
unfolding contains
start_in_lem r l = rw (le-leb r.gpa r.gpa (omega arith), lt-ltb r.gpa (r.gpa + r.size) (omega arith))

module _ (f : Headers) (accepted : NotRefused f) where
  pub accepted_sized : (i : ℕ) (r : Region) → i < f.initializations.count → region_of (f.initializations.row i) ≡ some r
      → (0 < r.size) × (r.gpa + r.size ≤ 18446744073709551615)
  accepted_sized i r l = region_sized f.arch (f.initializations.row i) (((accepted_says f).0 accepted).initialization i l) r

  -- no two regions of a nonzero mask start at one address
  pub starts_differ : (given : ℕ) → given ≢ 0 → (i j : ℕ) (r q : Region) → MatchingRegion f given i r → MatchingRegion f given j q → i ≢ j
      → r.gpa ≢ q.gpa
  starts_differ given n i j r q x y d e =
      (accepted_sound f accepted).apart given n i j r q x y d r.gpa
      (start_in_lem r (accepted_sized i r x.below x.region).0)
      (rw e (start_in_lem q (accepted_sized j q y.below y.region).0))

-- ---- counts of two tests

one_more : (b c : Bool) → (b ≡ true → c ≡ true) → cond {A = ℕ} b 1 0 ≤ cond c 1 0
one_more true c h = rw (h refl) (omega arith)
one_more false c h = omega arith

one_most : (b : Bool) → cond {A = ℕ} b 1 0 ≤ 1
one_most true = omega arith
one_most false = omega arith

-- what passes the first test passes the second
pub count_more_pass : (p q : ℕ → Bool) (n : ℕ) → ((i : ℕ) → i < n → p i ≡ true → q i ≡ true) → count_below n p ≤ count_below n q
count_more_pass p q n h =
    sum_le n n (λ i. cond (p i) 1 0) (λ i. cond (q i) 1 0) (λ i. i) (λ i l. l) (λ i j l k e. e) (λ i l. one_more (p i) (q i) (h i l))

module _ (p q : ℕ → Bool) where
  -- and index i passes the second test alone
  pub count_one_passes : (n : ℕ) → ((i : ℕ) → i < n → p i ≡ true → q i ≡ true) → (i : ℕ) → i < n → p i ≡ false → q i ≡ true
      → count_below n p < count_below n q
  unfolding sum_below
  count_one_passes zero h i l e g = absurd (not-suc-le-zero l)
  count_one_passes (suc n) h i l e g =
      elim (top l) [
        | inl s ↦
            let rest = count_more_pass p q n (λ j k. h j (omega arith)) in
            let a : p n ≡ false = rw s at e in
            let b : q n ≡ true = rw s at g in
            rw (a, b) (omega arith)
        | inr k ↦
            let rest = count_one_passes n (λ j m. h j (omega arith)) i k e g in
            let here = one_more (p n) (q n) (h n (omega arith)) in
            omega arith
      ]

  -- only index e may pass the second test alone
  pub count_one_most : (n e : ℕ) → ((i : ℕ) → i < n → i ≢ e → q i ≡ true → p i ≡ true) → count_below n q ≤ count_below n p + 1
  unfolding sum_below
  count_one_most zero e h = omega arith
  count_one_most (suc n) e h = go (count_one_most n e (λ i l. h i (omega arith))) (ℕ_discrete n e)
    where
      go : count_below n q ≤ count_below n p + 1 → Dec (n ≡ e) → count_below n q + cond (q n) 1 0 ≤ count_below n p + cond (p n) 1 0 + 1
      go rest (yes s) =
          let low = count_more_pass q p n (λ i l. h i (omega arith) (λ t. omega arith)) in
          let here = one_most (q n) in
          omega arith
      go rest (no d) =
          let here = one_more (q n) (p n) (h n (omega arith) d) in
          omega arith

-- ---- how many start below an address

module _ (xs : Rows IgvmInitializationHeader) (given : ℕ) where
  below : ℕ → ℕ → Bool
  below gpa i = region_passes (λ r. is_of_mask given r && ltb r.gpa gpa) (xs.row i)

  -- of a row's region
  below_says : (gpa i : ℕ) → (below gpa i ≡ true) ↔ ((r : Region) × (region_of (xs.row i) ≡ some r) × (is_of_mask given r ≡ true) × (r.gpa < gpa))
  unfolding below
  below_says gpa i = (
    λ e.
        let (r, o, t) = (region_passes_lem (λ r. is_of_mask given r && ltb r.gpa gpa) (xs.row i)).0 e in
        let (m, l) = and_parts (is_of_mask given r) (ltb r.gpa gpa) t in
        (r, o, m, ltb-true r.gpa gpa l),
    λ (r, o, m, l).
        (region_passes_lem (λ r. is_of_mask given r && ltb r.gpa gpa) (xs.row i)).1 (r, o, and_both (is_of_mask given r) (ltb r.gpa gpa) m (lt-ltb r.gpa gpa l)),
  )

  pub starts_rise : (a b : ℕ) → a ≤ b → starts_below xs given a ≤ starts_below xs given b
  unfolding starts_below below
  starts_rise a b l =
      count_more_pass (below a) (below b) xs.count (λ i k e.
      let (r, o, m, t) = (below_says a i).0 e in
      (below_says b i).1 (r, o, m, omega arith))

  -- none starts below 0
  starts_none : starts_below xs given 0 ≡ 0
  unfolding starts_below below
  starts_none = count_none xs.count (below 0) (λ i l. is_false (below 0 i) (λ e. let (r, o, m, t) = (below_says 0 i).0 e in not-suc-le-zero t))

  -- a region does not start below its start
  not_below : (i : ℕ) (r : Region) → region_of (xs.row i) ≡ some r → below r.gpa i ≡ false
  not_below i r o = is_false (below r.gpa i) (λ e.
      let (q, p, w, t) = (below_says r.gpa i).0 e in
      let s : r ≡ q = cc in
      let u : r.gpa ≡ q.gpa = ap (λ (x : Region). x.gpa) s in
      omega arith)

  -- a region of the mask is counted from its start on
  pub start_counts : (i : ℕ) (r : Region) → i < xs.count → region_of (xs.row i) ≡ some r → is_of_mask given r ≡ true
      → (gpa : ℕ) → r.gpa < gpa → starts_below xs given r.gpa < starts_below xs given gpa
  unfolding starts_below below
  start_counts i r l o m gpa a =
      count_one_passes (below r.gpa) (below gpa) xs.count
      (λ j k e. let (q, p, w, t) = (below_says r.gpa j).0 e in (below_says gpa j).1 (q, p, w, omega arith))
      i l
      (not_below i r o)
      ((below_says gpa i).1 (r, o, m, a))

  -- ---- the row at a place

  place_says : (k i : ℕ) → (region_passes (is_in_place xs given k) (xs.row i) ≡ true)
      ↔ ((r : Region) × (region_of (xs.row i) ≡ some r) × (is_of_mask given r ≡ true) × (starts_below xs given r.gpa ≡ k))
  unfolding is_in_place
  place_says k i = (
    λ e.
        let (r, o, t) = (region_passes_lem (is_in_place xs given k) (xs.row i)).0 e in
        let (m, s) = and_parts (is_of_mask given r) (eqb (starts_below xs given r.gpa) k) t in
        (r, o, m, eqb-true (starts_below xs given r.gpa) k s),
    λ (r, o, m, s).
        (region_passes_lem (is_in_place xs given k) (xs.row i)).1
        (r, o, and_both (is_of_mask given r) (eqb (starts_below xs given r.gpa) k) m (eq-eqb (starts_below xs given r.gpa) k s)),
  )

  -- what row i at place k is
  pub by_start_says : (k i : ℕ) → by_start xs given k ≡ some i
      → (r : Region) × (i < xs.count) × (region_of (xs.row i) ≡ some r) × (is_of_mask given r ≡ true) × (starts_below xs given r.gpa ≡ k)
  unfolding by_start
  by_start_says k i e =
      let (l, t, _) = first_says xs.count (λ i. region_passes (is_in_place xs given k) (xs.row i)) i e in
      let (r, o, m, s) = (place_says k i).0 t in
      (r, l, o, m, s)

  -- a row stands at one place
  pub by_start_once : (j k i : ℕ) → by_start xs given j ≡ some i → by_start xs given k ≡ some i → j ≡ k
  by_start_once j k i e g =
      let (r, l, o, m, s) = by_start_says j i e in
      let (q, b, p, w, t) = by_start_says k i g in
      let u : r ≡ q = cc in
      sym s ∙ ap (λ (x : Region). starts_below xs given x.gpa) u ∙ t

  -- a later place has a higher start
  pub starts_ascend : (j k a b : ℕ) (r q : Region) → j < k → by_start xs given j ≡ some a → by_start xs given k ≡ some b
      → region_of (xs.row a) ≡ some r → region_of (xs.row b) ≡ some q → r.gpa < q.gpa
  starts_ascend j k a b r q l e g o p =
      let (r2, la, oa, ma, sa) = by_start_says j a e in
      let (q2, lb, ob, mb, sb) = by_start_says k b g in
      let u : r2 ≡ r = cc in
      let v : q2 ≡ q = cc in
      let s : starts_below xs given r.gpa ≡ j = rw u at sa in
      let t : starts_below xs given q.gpa ≡ k = rw v at sb in
      elim (dec_lt r.gpa q.gpa) [ yes h ↦ h | no h ↦ let c = starts_rise q.gpa r.gpa (omega arith) in absurd (omega arith) ]

  -- each place is below the mask's count of regions
  pub place_below : (i : ℕ) (r : Region) → i < xs.count → region_of (xs.row i) ≡ some r → is_of_mask given r ≡ true
      → starts_below xs given r.gpa < index_count xs given
  unfolding starts_below below index_count
  place_below i r l o m =
      count_one_passes (below r.gpa) (λ j. region_passes (is_of_mask given) (xs.row j)) xs.count
      (λ j k e. let (q, p, w, t) = (below_says r.gpa j).0 e in (region_passes_lem (is_of_mask given) (xs.row j)).1 (q, p, w))
      i l (not_below i r o) ((region_passes_lem (is_of_mask given) (xs.row i)).1 (r, o, m))

  pub by_start_none : (k : ℕ) → index_count xs given ≤ k → by_start xs given k ≡ none
  by_start_none k l = go (by_start xs given k) refl
    where
      go : (o : Option ℕ) → by_start xs given k ≡ o → o ≡ none
      go none e = refl
      go (some i) e =
          let (r, b, o, m, s) = by_start_says k i e in
          let c = place_below i r b o m in
          absurd (omega arith)

  -- where more than k start below an address, there is one at which their count passes k
  reached : (gpa k : ℕ) → k < starts_below xs given gpa → (h : ℕ) × (starts_below xs given h ≤ k) × (k < starts_below xs given (suc h))
  reached zero k l = absurd (omega (arith, starts_none))
  reached (suc gpa) k l = go (dec_lt k (starts_below xs given gpa)) (reached gpa k)
    where
      go : Dec (k < starts_below xs given gpa)
          → (k < starts_below xs given gpa → (h : ℕ) × (starts_below xs given h ≤ k) × (k < starts_below xs given (suc h)))
          → (h : ℕ) × (starts_below xs given h ≤ k) × (k < starts_below xs given (suc h))
      go (yes b) rest = rest b
      go (no b) rest = (gpa, omega arith, l)

  -- where more start below h + 1 than below h, one starts at h
  starts_at_lem : (h : ℕ) → starts_below xs given h < starts_below xs given (suc h)
      → (i : ℕ) × (r : Region) × (i < xs.count) × (region_of (xs.row i) ≡ some r) × (is_of_mask given r ≡ true) × (r.gpa ≡ h)
  unfolding starts_below below
  starts_at_lem h l = go (which (any_below xs.count at))
    where
      at : ℕ → Bool
      at i = region_passes (λ r. is_of_mask given r && eqb r.gpa h) (xs.row i)

      none_at : any_below xs.count at ≡ false → (i : ℕ) → i < xs.count → below (suc h) i ≡ true → below h i ≡ true
      none_at e i b t =
          let (r, o, m, u) = (below_says (suc h) i).0 t in
          let fails = (region_fails (λ r. is_of_mask given r && eqb r.gpa h) (xs.row i)).0 ((none_any xs.count at).0 e i b) r o in
          let d = eqb-false r.gpa h (rw m at fails) in
          (below_says h i).1 (r, o, m, omega arith)

      go : (any_below xs.count at ≡ true) ⊎ (any_below xs.count at ≡ false)
          → (i : ℕ) × (r : Region) × (i < xs.count) × (region_of (xs.row i) ≡ some r) × (is_of_mask given r ≡ true) × (r.gpa ≡ h)
      go (inl e) =
          let (i, b, t) = some_below xs.count at e in
          let (r, o, u) = (region_passes_lem (λ r. is_of_mask given r && eqb r.gpa h) (xs.row i)).0 t in
          let (m, g) = and_parts (is_of_mask given r) (eqb r.gpa h) u in
          (i, r, b, o, m, eqb-true r.gpa h g)
      go (inr e) = let c = count_more_pass (below (suc h)) (below h) xs.count (none_at e) in absurd (omega arith)

-- ---- the words of a place

module _ (f : Headers) (given k i : ℕ) (r : Region) (at : by_start f.initializations given k ≡ some i) (region : region_of (f.initializations.row i) ≡ some r) where
  word_is : (w part : ℕ) → w % 3 ≡ part → w / 3 ≡ k → index_word f given w ≡ indexed_row f part (some i)
  unfolding index_word
  word_is w part p e = rw (p, e, at)

  pub start_word : index_word f given (3 * k) ≡ r.gpa
  start_word = rw (word_is (3 * k) 0 (omega arith) (omega arith), region)

  pub size_word : index_word f given (3 * k + 1) ≡ r.size
  size_word = rw (word_is (3 * k + 1) 1 (omega arith) (omega arith), region)

  pub row_word : index_word f given (3 * k + 2) ≡ number_of_row f (some i)
  row_word = rw (word_is (3 * k + 2) 2 (omega arith) (omega arith), region)

-- ---- in an accepted file, for a nonzero mask

module _ (f : Headers) (accepted : NotRefused f) (given : ℕ) (nonzero : given ≢ 0) where
  differ : (i j : ℕ) (r q : Region) → i < f.initializations.count → j < f.initializations.count
      → region_of (f.initializations.row i) ≡ some r → region_of (f.initializations.row j) ≡ some q
      → is_of_mask given r ≡ true → is_of_mask given q ≡ true → i ≢ j → r.gpa ≢ q.gpa
  differ i j r q l k o p m w d =
      starts_differ f accepted given nonzero i j r q (record { below = l; region = o; matching = m }) (record { below = k; region = p; matching = w }) d

  -- the row whose region has k of the mask's starts below it stands at place k
  pub by_start_is : (i : ℕ) (r : Region) → i < f.initializations.count → region_of (f.initializations.row i) ≡ some r → is_of_mask given r ≡ true
      → (k : ℕ) → starts_below f.initializations given r.gpa ≡ k → by_start f.initializations given k ≡ some i
  unfolding by_start
  by_start_is i r l o m k s =
      first_at f.initializations.count in_place i l (λ j b. is_false (in_place j) (other j b))
      ((place_says f.initializations given k i).1 (r, o, m, s))
    where
      in_place : ℕ → Bool
      in_place j = region_passes (is_in_place f.initializations given k) (f.initializations.row j)

      other : (j : ℕ) → j < i → in_place j ≡ true → ⊥
      other j b e =
          let (q, p, w, t) = (place_says f.initializations given k j).0 e in
          let d = differ i j r q l (omega arith) o p m w (λ u. omega arith) in
          elim (dec_lt r.gpa q.gpa) [
            | yes a ↦ let c = start_counts f.initializations given i r l o m q.gpa a in omega arith
            | no a ↦ let c = start_counts f.initializations given j q (omega arith) p w r.gpa (omega arith) in omega arith
          ]

  -- at most one starts at an address
  one_start : (h i : ℕ) (r : Region) → i < f.initializations.count → region_of (f.initializations.row i) ≡ some r → is_of_mask given r ≡ true → r.gpa ≡ h
      → starts_below f.initializations given (suc h) ≤ starts_below f.initializations given h + 1
  unfolding starts_below below
  one_start h i r l o m a =
      count_one_most (below f.initializations given h) (below f.initializations given (suc h)) f.initializations.count i (λ j k d e.
      let (q, p, w, t) = (below_says f.initializations given (suc h) j).0 e in
      let u = differ j i q r k l p o w m d in
      (below_says f.initializations given h j).1 (q, p, w, omega arith))

  -- every region starts below 2^64
  all_start : index_count f.initializations given ≤ starts_below f.initializations given 18446744073709551616
  unfolding index_count starts_below below
  all_start =
      count_more_pass (λ i. region_passes (is_of_mask given) (f.initializations.row i)) (below f.initializations given 18446744073709551616) f.initializations.count (λ i l e.
      let (r, o, m) = (region_passes_lem (is_of_mask given) (f.initializations.row i)).0 e in
      let (some_size, most) = accepted_sized f accepted i r l o in
      (below_says f.initializations given 18446744073709551616 i).1 (r, o, m, omega arith))

  -- each place below the count has its row
  pub by_start_some : (k : ℕ) → k < index_count f.initializations given
      → (i : ℕ) × (r : Region) × (by_start f.initializations given k ≡ some i) × MatchingRegion f given i r × (starts_below f.initializations given r.gpa ≡ k)
  by_start_some k l =
      let all = all_start in
      let (h, a, b) = reached f.initializations given 18446744073709551616 k (omega arith) in
      let (i, r, c, o, m, g) = starts_at_lem f.initializations given h (omega arith) in
      let d = one_start h i r c o m g in
      let s : starts_below f.initializations given r.gpa ≡ k = rw g (omega arith) in
      (i, r, by_start_is i r c o m k s, record { below = c; region = o; matching = m }, s)

  -- and its start and size are below 2^64
  pub place_small : (k : ℕ) → k < index_count f.initializations given
      → (index_word f given (3 * k) < 18446744073709551616) × (index_word f given (3 * k + 1) < 18446744073709551616)
  place_small k l =
      let (i, r, e, m, _) = by_start_some k l in
      let (some_size, most) = accepted_sized f accepted i r m.below m.region in
      (rw (start_word f given k i r e m.region) (omega arith), rw (size_word f given k i r e m.region) (omega arith))

  -- and each region of the mask has one place
  pub one_place : (i : ℕ) (r : Region) → MatchingRegion f given i r
      → (k : ℕ) × (k < index_count f.initializations given) × (by_start f.initializations given k ≡ some i)
      × ((j : ℕ) → by_start f.initializations given j ≡ some i → j ≡ k)
  one_place i r m =
      let e = by_start_is i r m.below m.region m.matching _ refl in
      (_, place_below f.initializations given i r m.below m.region m.matching, e, λ j g. by_start_once f.initializations given j _ i g e)
