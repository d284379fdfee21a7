-- Laws of regions and of the tests on them.
use Rattle.rows.{proofs.Kit.{◌≡◌, refl, sym, Bool, true, false, ◌&&◌, false≢true, ◌↔◌, Option, none, some, ℕ, ◌+◌, ◌<◌, arith, leb, ltb, lt-ltb, ltb-true, leb-true}, specs.Rows.{Rows, any}, proofs.Bools.{not_both, is_false, and_parts}, proofs.BelowLaws.none_any}
use Rattle.igvm_defs.{specs.Vtls.vtl_number, proofs.VtlLaws.vtl_below}
use Rattle.masks.{specs.Masks.shares, proofs.MaskLaws.shares_sym}
use Rattle.addresses.specs.Addresses.{contains, meets}
use Rattle.initialization_header.specs.declared.{IgvmInitializationHeader.IgvmInitializationHeader, IgvmInitializationHeader.TheVariants.{GuestPolicy, CcaPolicy, RelocatableRegion, PageTableRelocationRegion}}
use Rattle.rules.specs.{declared.Region.Region, Regions.{region_of, region_passes, tables_share, overlap, regions_clash}, Options.passes}

-- ---- ranges of addresses

-- an address in both ranges
pub contains_meets : (base size base2 size2 gpa : ℕ) → contains base size gpa ≡ true → contains base2 size2 gpa ≡ true
    → meets base size base2 size2 ≡ true
unfolding contains meets
contains_meets base size base2 size2 gpa c d =
    let (c0, c1) = and_parts (leb base gpa) (ltb gpa (base + size)) c in
    let (d0, d1) = and_parts (leb base2 gpa) (ltb gpa (base2 + size2)) d in
    rw (lt-ltb base (base2 + size2) (omega (arith, leb-true, ltb-true)), lt-ltb base2 (base + size) (omega (arith, leb-true, ltb-true)))

pub meets_sym : (base size base2 size2 : ℕ) → meets base size base2 size2 ≡ true → meets base2 size2 base size ≡ true
unfolding meets
meets_sym base size base2 size2 h = let (a, b) = and_parts (ltb base (base2 + size2)) (ltb base2 (base + size)) h in rw (a, b)

-- ---- two regions

pub overlap_says : (r q : Region) → (overlap r q ≡ true) ↔ ((shares r.mask q.mask ≡ true) × (meets r.gpa r.size q.gpa q.size ≡ true))
unfolding overlap
overlap_says r q = (and_parts (shares r.mask q.mask) (meets r.gpa r.size q.gpa q.size), λ h. rw (h.0, h.1))

pub overlap_sym : (r q : Region) → overlap r q ≡ true → overlap q r ≡ true
overlap_sym r q h = let (a, b) = (overlap_says r q).0 h in (overlap_says q r).1 (rw shares_sym a, meets_sym _ _ _ _ b)

pub tables_share_says : (r q : Region) → (tables_share r q ≡ true)
    ↔ ((r.page_table ≡ true) × (q.page_table ≡ true) × (shares r.mask q.mask ≡ true))
unfolding tables_share
tables_share_says r q = (
  λ h.
      let (a, s) = and_parts (r.page_table && q.page_table) (shares r.mask q.mask) h in
      let (t, u) = and_parts r.page_table q.page_table a in (t, u, s),
  λ h. rw (h.0, h.1, h.2),
)

pub tables_share_sym : (r q : Region) → tables_share r q ≡ true → tables_share q r ≡ true
tables_share_sym r q h = let (a, b, c) = (tables_share_says r q).0 h in (tables_share_says q r).1 (b, a, rw shares_sym c)

-- ---- the region of a header

pub region_passes_lem : (p : Region → Bool) (h : IgvmInitializationHeader)
    → (region_passes p h ≡ true) ↔ ((r : Region) × (region_of h ≡ some r) × (p r ≡ true))
unfolding region_passes
region_passes_lem p h = go (region_of h)
  where
    go : (o : Option Region) → (passes p o ≡ true) ↔ ((r : Region) × (o ≡ some r) × (p r ≡ true))
    go none = (λ e. absurd (false≢true e), λ (r, e, g). absurd (false≢true (cc)))
    go (some r) = (λ e. (r, refl, e), λ (q, e, g). let s : r ≡ q = cc in rw s g)

pub region_fails : (p : Region → Bool) (h : IgvmInitializationHeader) → (region_passes p h ≡ false) ↔ ((r : Region) → region_of h ≡ some r → p r ≡ false)
region_fails p h = (
  λ e r o. is_false (p r) (λ g. not_both e ((region_passes_lem p h).1 (r, o, g))),
  λ e. is_false (region_passes p h) (λ g. let (r, o, t) = (region_passes_lem p h).0 g in not_both (e r o) t),
)

-- a region's VTL is one of three
pub region_vtl : (h : IgvmInitializationHeader) (r : Region) → region_of h ≡ some r → r.vtl < 3
region_vtl (GuestPolicy policy mask) r e = absurd (false≢true (cc))
region_vtl (CcaPolicy mask zeroes ones) r e = absurd (false≢true (cc))
region_vtl (RelocatableRegion mask alignment gpa size minimum maximum vtl2 rip gdtr vp vtl) r e =
    let l = vtl_below vtl in let q : r.vtl ≡ vtl_number vtl = cc in omega arith
region_vtl (PageTableRelocationRegion mask gpa size used vp vtl) r e = let l = vtl_below vtl in let q : r.vtl ≡ vtl_number vtl = cc in omega arith

-- ---- two headers with regions

pub regions_clash_lem : (clash : Region → Region → Bool) (h g : IgvmInitializationHeader)
    → (regions_clash clash h g ≡ true) ↔ ((r q : Region) × (region_of h ≡ some r) × (region_of g ≡ some q) × (clash r q ≡ true))
unfolding regions_clash
regions_clash_lem clash h g = (
  λ e.
      let (r, o, p) = (region_passes_lem (λ r. region_passes (clash r) g) h).0 e in
      let (q, u, c) = (region_passes_lem (clash r) g).0 p in (r, q, o, u, c),
  λ (r, q, o, u, c). (region_passes_lem (λ r. region_passes (clash r) g) h).1 (r, o, (region_passes_lem (clash r) g).1 (q, u, c)),
)

pub regions_clash_sym : (clash : Region → Region → Bool) → ((r q : Region) → clash r q ≡ true → clash q r ≡ true)
    → (h g : IgvmInitializationHeader) → regions_clash clash h g ≡ true → regions_clash clash g h ≡ true
regions_clash_sym clash clash-sym h g e =
    let (r, q, o, u, c) = (regions_clash_lem clash h g).0 e in
    (regions_clash_lem clash g h).1 (q, r, u, o, clash-sym r q c)

-- the region of a header clashes with that of some row: some row clashes with the header
pub clash_any : (clash : Region → Region → Bool) (xs : Rows IgvmInitializationHeader) (h : IgvmInitializationHeader)
    → region_passes (λ r. any (region_passes (clash r)) xs) h ≡ any (regions_clash clash h) xs
unfolding region_passes regions_clash
clash_any clash xs h = go (region_of h)
  where
    go : (o : Option Region) → passes (λ r. any (region_passes (clash r)) xs) o ≡ any (λ g. passes (λ r. region_passes (clash r) g) o) xs
    go none = sym ((none_any xs.count (λ i. false)).1 (λ i l. refl))
    go (some r) = refl
