-- A file whose rows all stand in an accepted file is accepted, where what its rows rely on stands in it too: platforms, VBS contexts, and
-- the areas that it names. Reordered files are an example both ways.
use Rattle.rows.{proofs.Kit.{◌≡◌, sym, ap, ◌∙◌, subst, Bool, true, false, not, some, ℕ, ◌<◌, arith, eqb, eqb-true, not-true}, specs.Rows.{Rows, any, before}, specs.Paired.{Paired, Into, Free}, proofs.Bools.and_parts, proofs.BelowLaws.{any_below_lem, some_below}, proofs.PairedLaws.{earlier_false, keeps_back, apart_back, once_back, forth, length_same, last_same}}
use Rattle.igvm_defs.specs.Refusals.{is_fault}
use Rattle.platform_header.specs.declared.IgvmPlatformHeader.{IgvmPlatformHeader}
use Rattle.directive_header.{specs.declared.IgvmDirectiveHeader.IgvmDirectiveHeader, specs.Fields.area_of}
use Rattle.rules.specs.{Regions.{region_of, tables_share, overlap, regions_clash}, Options.passes, Platforms.{same_type, is_cca, last_is_cca, own_platform_fault}, Directives.{allocates, inserts, is_allocated, is_context, own_directive_fault}, Headers.Headers, Initializations.own_initialization_fault, Accepted.Accepted, Reordered.{SameMask, SameArea}}
use Rattle.rules.proofs.AreaLaws.{allocates_names, inserts_names}

pub record Within (g f : Headers) : Type 0 where
  pub arch : g.arch ≡ f.arch
  pub platforms : Paired SameMask g.platforms f.platforms
  pub initializations : Into Free g.initializations f.initializations
  pub directives : Into SameArea g.directives f.directives
  -- every VBS context of f stands in g
  pub contexts : (level bits j : ℕ) → j < f.directives.count → is_context level bits (f.directives.row j) ≡ true
      → (k : ℕ) × (k < g.directives.count) × (directives.to k ≡ j)
  -- and so does each ParameterArea whose area a row of g names
  pub areas : (area i j : ℕ) → i < g.directives.count → area_of (g.directives.row i) ≡ some area
      → j < f.directives.count → allocates area (f.directives.row j) ≡ true
      → (k : ℕ) × (k < g.directives.count) × (directives.to k ≡ j)

-- ---- one list

module _ {H : Type 0} {Tied : H → H → Type 0} {xs ys : Rows H} (I : Into Tied xs ys) where
  -- what holds of every row of ys holds of every row of xs
  pub each_back : (P : H → Type 0) → ((j : ℕ) → j < ys.count → P (ys.row j)) → (i : ℕ) → i < xs.count → P (xs.row i)
  each_back P h i l = subst P (I.same i l) (h (I.to i) (I.to_below i l))

  -- the rows of ys that pass stand in xs
  pub any_kept : (p : H → Bool) → ((j : ℕ) → j < ys.count → p (ys.row j) ≡ true → (k : ℕ) × (k < xs.count) × (I.to k ≡ j))
      → any p ys ≡ true → any p xs ≡ true
  any_kept p kept h =
      let (j, l, g) = some_below ys.count (λ n. p (ys.row n)) h in
      let (k, m, e) = kept j l g in
      any_below_lem xs.count (λ n. p (xs.row n)) k m (rw (← I.same k m, e) g)

  -- the same of the rows before row i, where what passes is tied to row i
  pub earlier_kept : ((x y : H) → Tied x y → Tied y x) → (p : H → Bool) (i : ℕ) → i < xs.count → ((y : H) → p y ≡ true → Tied y (xs.row i))
      → ((j : ℕ) → j < ys.count → p (ys.row j) ≡ true → (k : ℕ) × (k < xs.count) × (I.to k ≡ j))
      → any p (before (I.to i) ys) ≡ true → any p (before i xs) ≡ true
  earlier_kept tied-sym p i l t kept h =
      let (j, b, g) = some_below (I.to i) (λ n. p (ys.row n)) h in
      let m = I.to_below i l in
      let (k, n, e) = kept j (omega arith) g in
      let q : p (xs.row k) ≡ true = rw (← I.same k n, e) g in
      any_below_lem i (λ n. p (xs.row n)) k (keeps_back I k i n l (tied-sym _ _ (t (xs.row k) q)) (omega arith)) q

-- ---- platforms

pub mask_sym : (p q : IgvmPlatformHeader) → SameMask p q → SameMask q p
mask_sym p q e = sym e

pub last_cca_same : {ps qs : Rows IgvmPlatformHeader} → Paired SameMask ps qs → (mask : ℕ) → last_is_cca ps mask ≡ last_is_cca qs mask
unfolding last_is_cca
last_cca_same P mask =
    ap (passes is_cca) (last_same mask_sym P (λ p. eqb p.compatibility_mask mask) (λ x y hx hy.
    eqb-true x.compatibility_mask mask hx ∙ sym (eqb-true y.compatibility_mask mask hy)))

-- ---- directives

pub area_sym : (d e : IgvmDirectiveHeader) → SameArea d e → SameArea e d
area_sym d e (area, h, k) = (area, k, h)

module _ {es ds : Rows IgvmDirectiveHeader} (I : Into SameArea es ds) where
  -- an area that a row names is as it was, where its ParameterArea stands in es
  pub allocated_back : (i area : ℕ) → i < es.count → area_of (es.row i) ≡ some area
      → ((j : ℕ) → j < ds.count → allocates area (ds.row j) ≡ true → (k : ℕ) × (k < es.count) × (I.to k ≡ j))
      → is_allocated (before (I.to i) ds) area ≡ true → is_allocated (before i es) area ≡ true
  unfolding is_allocated
  allocated_back i area l o kept h =
      let (a, n) = and_parts (any (allocates area) (before (I.to i) ds)) (not (any (inserts area) (before (I.to i) ds))) h in
      rw (
        earlier_kept I area_sym (allocates area) i l (λ y g. (area, allocates_names area y g, o)) kept a,
        earlier_false I (inserts area) i l (λ y g. (area, inserts_names area y g, o)) (not-true (any (inserts area) (before (I.to i) ds)) n),
      )

-- ---- the file

pub within_accepted : (g f : Headers) → Within g f → Accepted f → Accepted g
within_accepted g f W a =
    record {
      platform = each_back (forth W.platforms) (λ h. is_fault (own_platform_fault g.arch h) ≡ false) (rw W.arch a.platform);
      types = apart_back (forth W.platforms) same_type a.types;
      some_platform = rw (length_same W.platforms) a.some_platform;
      initialization = each_back W.initializations (λ h. is_fault (own_initialization_fault g.arch h) ≡ false) (rw W.arch a.initialization);
      cca = λ i l e k b h.
          last_cca_same W.platforms _
          ∙ a.cca (W.initializations.to i) (W.initializations.to_below i l) (rw (W.initializations.same i l) e) k b (rw (W.initializations.same i l) h);
      tables = apart_back W.initializations (regions_clash tables_share) a.tables;
      regions = apart_back W.initializations (regions_clash overlap) a.regions;
      directive = each_back W.directives (λ h. is_fault (own_directive_fault g.arch h) ≡ false) (rw W.arch a.directive);
      allocated = λ area. once_back W.directives (allocates area) (a.allocated area);
      named = λ i area l o n.
          allocated_back W.directives i area l o (λ j. W.areas area i j l o)
          (a.named (W.directives.to i) area (W.directives.to_below i l) (ap area_of (W.directives.same i l) ∙ o) (ap (allocates area) (W.directives.same i l) ∙ n));
      inserts = λ i l e j r k o.
          rw (W.directives.same i l) at
          (a.inserts (W.directives.to i) (W.directives.to_below i l) (rw (W.directives.same i l) e)
          (W.initializations.to j) r (W.initializations.to_below j k) (ap region_of (W.initializations.same j k) ∙ o));
      vp = λ i r l o. a.vp (W.initializations.to i) r (W.initializations.to_below i l) (ap region_of (W.initializations.same i l) ∙ o);
      context = λ i r l o.
          any_kept W.directives (is_context r.vtl r.mask) (W.contexts r.vtl r.mask)
          (a.context (W.initializations.to i) r (W.initializations.to_below i l) (ap region_of (W.initializations.same i l) ∙ o));
    }
