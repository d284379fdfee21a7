-- The headers of a file are accepted exactly when `Accepted` holds of its rows.
use Rattle.rows.{proofs.Kit.{◌≡◌, refl, sym, ◌∙◌, Bool, true, false, not, cond, ◌&&◌, ◌↔◌, none, some, ℕ, ◌+◌, ◌^◌, ◌<◌, arith, eqb, eqb-true, eqb-false, eq-eqb, ne_eqb, not-false}, specs.Rows.{Rows, any, before}, proofs.Bools.and_parts, proofs.BelowLaws.none_any, proofs.PairedLaws.{earlier_apart, apart_earlier}}
use Rattle.igvm_defs.{specs.declared.Arch.Arch, specs.Refusals.{no_fault, is_fault, is_refusal, in_row, first_fault}, proofs.RefusalLaws.{no_fault_lem, row_refusal_lem}}
use Rattle.masks.{specs.Masks.has_bit, proofs.MaskLaws.first_mask_none}
use Rattle.addresses.specs.Addresses.{ends_beyond}
use Rattle.platform_header.specs.declared.IgvmPlatformHeader.{IgvmPlatformHeader}
use Rattle.initialization_header.{specs.declared.IgvmInitializationHeader.IgvmInitializationHeader, specs.Fields.initialization_fields}
use Rattle.directive_header.{specs.declared.IgvmDirectiveHeader.IgvmDirectiveHeader, specs.Fields.directive_fields}
use Rattle.rules.specs.{declared.Region.Region, Regions.{region_of, region_passes, tables_share, overlap, table_holds, regions_clash}, Platforms.{same_type, platform_fault, last_is_cca, own_platform_fault}, Initializations.{validate_initialization, wrong_policy_arch, bit_without_cca, without_cca, initialization_fault, own_initialization_fault}, Directives.{allocates, bad_area, inside_table, directive_fault, is_context, no_context, own_directive_fault}, Headers.Headers, Verdict.{platform_faults, initialization_faults, directive_faults, no_platform, no_matching_vp_context, platforms_refusal, initializations_refusal, directives_refusal, headers_refusal}, Accepted.{NotRefused, Accepted}}
use Rattle.rules.proofs.{RegionLaws.{overlap_sym, tables_share_sym, region_fails, regions_clash_sym, clash_any}, FaultLaws.{refuse_none, or_none, bit_none, else_none, rows_none}, AreaLaws.{earlier_once, once_earlier, allocates_names, bad_area_lem}}

-- ---- a platform row: 8 to 13, and 14

pub platform_says : (arch : Arch) (earlier : Rows IgvmPlatformHeader) (h : IgvmPlatformHeader)
    → (is_fault (platform_fault arch earlier h) ≡ false) ↔ ((is_fault (own_platform_fault arch h) ≡ false) × (any (same_type h) earlier ≡ false))
unfolding platform_fault
platform_says arch earlier h = (
  λ e. let (own, r) = (or_none (own_platform_fault arch h) _).0 e in (own, ((refuse_none (any (same_type h) earlier) 13 0 no_fault).0 r).0),
  λ (own, c14). rw (own, c14) no_fault_lem,
)

pub same_type_sym : (h g : IgvmPlatformHeader) → same_type h g ≡ true → same_type g h ≡ true
unfolding same_type
same_type_sym h g e = eq-eqb g.platform_type h.platform_type (sym (eqb-true h.platform_type g.platform_type e))

-- ---- an initialization row: 16 to 24, 27 and 28, then 25, 26 and 29

pub initialization_says : (arch : Arch) (platforms : Rows IgvmPlatformHeader) (earlier : Rows IgvmInitializationHeader) (h : IgvmInitializationHeader)
    → (is_fault (initialization_fault arch platforms earlier h) ≡ false)
    ↔ ((is_fault (own_initialization_fault arch h) ≡ false) × (without_cca platforms h ≡ none)
    × (any (regions_clash tables_share h) earlier ≡ false) × (any (regions_clash overlap h) earlier ≡ false))
unfolding initialization_fault own_initialization_fault
initialization_says arch platforms earlier h = (
  λ e.
      let (v, r) = (or_none (validate_initialization h) _).0 e in
      let (c24, r24) = (refuse_none (wrong_policy_arch arch h) 23 17 _).0 r in
      let (c25, r25) = (bit_none (without_cca platforms h) _).0 r24 in
      let (c26, r26) = (refuse_none (region_passes (λ r. any (region_passes (tables_share r)) earlier) h) 25 0 _).0 r25 in
      let (c27, r27) = (refuse_none empty 26 0 _).0 r26 in
      let (c28, r28) = (refuse_none high 27 0 _).0 r27 in
      let (c29, _) = (refuse_none (region_passes (λ r. any (region_passes (overlap r)) earlier) h) 28 0 no_fault).0 r28 in
      (rw (v, c24, c27, c28) no_fault_lem, c25, sym (clash_any tables_share earlier h) ∙ c26, sym (clash_any overlap earlier h) ∙ c29),
  λ (own, c25, c26, c29).
      let (v, r) = (or_none (validate_initialization h) _).0 own in
      let (c24, r24) = (refuse_none (wrong_policy_arch arch h) 23 17 _).0 r in
      let (c27, r27) = (refuse_none empty 26 0 _).0 r24 in
      let (c28, _) = (refuse_none high 27 0 no_fault).0 r27 in
      rw (v, c24, c25, clash_any tables_share earlier h, c26, c27, c28, clash_any overlap earlier h, c29) no_fault_lem,
)
  where
    empty : Bool
    empty = region_passes (λ r. eqb r.size 0) h

    high : Bool
    high = region_passes (λ r. ends_beyond r.gpa r.size) h

bit_without_cca_lem : (platforms : Rows IgvmPlatformHeader) (mask : ℕ) → (bit_without_cca platforms mask ≡ none)
    ↔ ((k : ℕ) → k < 32 → has_bit mask k ≡ true → last_is_cca platforms (2 ^ k) ≡ true)
unfolding bit_without_cca
bit_without_cca_lem platforms mask = (
  λ e k l b. not-false (last_is_cca platforms (2 ^ k)) ((first_mask_none (λ bit. not (last_is_cca platforms bit)) 32 mask).0 e k l b),
  λ e. (first_mask_none (λ bit. not (last_is_cca platforms bit)) 32 mask).1 (λ k l b. rw (e k l b)),
)

pub without_cca_lem : (platforms : Rows IgvmPlatformHeader) (h : IgvmInitializationHeader) → (without_cca platforms h ≡ none)
    ↔ ((initialization_fields h).kind ≡ 17 → (k : ℕ) → k < 32 → has_bit (initialization_fields h).mask k ≡ true → last_is_cca platforms (2 ^ k) ≡ true)
without_cca_lem platforms h = (
  λ f e. (bit_without_cca_lem platforms mask).0 (rw (eq-eqb _ _ e) at f),
  λ f. go (eqb (initialization_fields h).kind 17) refl (λ e. (bit_without_cca_lem platforms mask).1 (f (eqb-true _ 17 e))),
)
  where
    mask : ℕ
    mask = (initialization_fields h).mask

    go : (b : Bool) → eqb (initialization_fields h).kind 17 ≡ b → (eqb (initialization_fields h).kind 17 ≡ true → bit_without_cca platforms mask ≡ none)
        → cond b (bit_without_cca platforms mask) none ≡ none
    go true e f = f e
    go false e f = refl

-- ---- a directive row: 21, 22, 24, 30 and 31, then 32 and 33

pub directive_says : (arch : Arch) (initializations : Rows IgvmInitializationHeader) (earlier : Rows IgvmDirectiveHeader) (h : IgvmDirectiveHeader)
    → (is_fault (directive_fault arch initializations earlier h) ≡ false)
    ↔ ((is_fault (own_directive_fault arch h) ≡ false) × (bad_area earlier h ≡ false) × (inside_table initializations h ≡ false))
unfolding directive_fault
directive_says arch initializations earlier h = (
  λ e.
      let (own, r) = (or_none (own_directive_fault arch h) _).0 e in
      let (c32, r32) = (refuse_none (bad_area earlier h) 31 0 _).0 r in
      (own, c32, ((refuse_none (inside_table initializations h) 32 0 no_fault).0 r32).0),
  λ (own, c32, c33). rw (own, c32, c33) no_fault_lem,
)

-- no page table holds the insert's address
pub inside_table_lem : (initializations : Rows IgvmInitializationHeader) (h : IgvmDirectiveHeader) → (inside_table initializations h ≡ false)
    ↔ ((directive_fields h).kind ≡ 50 → (j : ℕ) (r : Region) → j < initializations.count → region_of (initializations.row j) ≡ some r
    → table_holds (directive_fields h).mask (directive_fields h).gpa r ≡ false)
inside_table_lem initializations h = (
  λ f e j r l o. (region_fails holds (initializations.row j)).0 ((none_any initializations.count row_holds).0 (rw (eq-eqb _ _ e) at f) j l) r o,
  λ f. go (eqb (directive_fields h).kind 50) refl f,
)
  where
    holds : Region → Bool
    holds = table_holds (directive_fields h).mask (directive_fields h).gpa

    row_holds : ℕ → Bool
    row_holds j = region_passes holds (initializations.row j)

    go : (b : Bool) → eqb (directive_fields h).kind 50 ≡ b
        → ((directive_fields h).kind ≡ 50 → (j : ℕ) (r : Region) → j < initializations.count → region_of (initializations.row j) ≡ some r → holds r ≡ false)
        → (b && any (region_passes holds) initializations) ≡ false
    go true e f = (none_any initializations.count row_holds).1 (λ j l. (region_fails holds (initializations.row j)).1 (λ r o. f (eqb-true _ 50 e) j r l o))
    go false e f = refl

-- ---- a region: 34

pub no_context_lem : (directives : Rows IgvmDirectiveHeader) (r : Region) → (no_context directives r ≡ false)
    ↔ ((r.vp_index ≡ 0) × (any (is_context r.vtl r.mask) directives ≡ true))
unfolding no_context
no_context_lem directives r = (
  λ e.
      let (v, c) = and_parts (eqb r.vp_index 0) (any (is_context r.vtl r.mask) directives)
      (not-false (eqb r.vp_index 0 && any (is_context r.vtl r.mask) directives) e) in
      (eqb-true r.vp_index 0 v, c),
  λ (v, c). rw (v, c),
)

-- ---- the lists

-- 8 to 14 of each row, then 15
pub platforms_say : (f : Headers) → (is_refusal (platforms_refusal f) ≡ false)
    ↔ (((i : ℕ) → i < f.platforms.count → is_fault (platform_faults f i) ≡ false) × (0 < f.platforms.count))
unfolding platforms_refusal no_platform
platforms_say f = (
  λ h.
      let (rows, n) = (else_none (first_fault 0 f.platforms.count (platform_faults f)) _).0 h in
      let (e, _) = (refuse_none (eqb f.platforms.count 0) 14 0 no_fault).0 (sym (row_refusal_lem 0 (no_platform f)) ∙ n) in
      let some_platform = eqb-false f.platforms.count 0 e in
      ((rows_none 0 f.platforms.count (platform_faults f)).0 rows, omega arith),
  λ (rows, l).
      let n : is_fault (no_platform f) ≡ false = rw (ne_eqb f.platforms.count 0 (omega arith)) no_fault_lem in
      (else_none (first_fault 0 f.platforms.count (platform_faults f)) (in_row 0 (no_platform f))).1
      ((rows_none 0 f.platforms.count (platform_faults f)).1 rows, row_refusal_lem 0 (no_platform f) ∙ n),
)

-- 16 to 29 of each row
pub initializations_say : (f : Headers) → (is_refusal (initializations_refusal f) ≡ false)
    ↔ ((i : ℕ) → i < f.initializations.count → is_fault (initialization_faults f i) ≡ false)
unfolding initializations_refusal
initializations_say f = rows_none f.platforms.count f.initializations.count (initialization_faults f)

-- 21, 22, 24 and 30 to 33 of each row, then 34 of each region
pub directives_say : (f : Headers) → (is_refusal (directives_refusal f) ≡ false)
    ↔ (((i : ℕ) → i < f.directives.count → is_fault (directive_faults f i) ≡ false)
    × ((i : ℕ) (r : Region) → i < f.initializations.count → region_of (f.initializations.row i) ≡ some r → no_context f.directives r ≡ false))
unfolding directives_refusal no_matching_vp_context
directives_say f = (
  λ h.
      let (rows, c) = (else_none (first_fault first f.directives.count (directive_faults f)) _).0 h in
      let (e, _) = (refuse_none (any lacks f.initializations) 33 0 no_fault).0 (sym (row_refusal_lem 0 (no_matching_vp_context f)) ∙ c) in (
        (rows_none first f.directives.count (directive_faults f)).0 rows,
        λ i r l o. (region_fails (no_context f.directives) (f.initializations.row i)).0 ((none_any f.initializations.count (λ j. lacks (f.initializations.row j))).0 e i l) r o,
      ),
  λ (rows, c).
      let e : any lacks f.initializations ≡ false =
      (none_any f.initializations.count (λ j. lacks (f.initializations.row j))).1 (λ i l.
      (region_fails (no_context f.directives) (f.initializations.row i)).1 (λ r o. c i r l o)) in
      let n : is_fault (no_matching_vp_context f) ≡ false = rw e no_fault_lem in
      (else_none (first_fault first f.directives.count (directive_faults f)) (in_row 0 (no_matching_vp_context f))).1
      ((rows_none first f.directives.count (directive_faults f)).1 rows, row_refusal_lem 0 (no_matching_vp_context f) ∙ n),
)
  where
    first : ℕ
    first = f.platforms.count + f.initializations.count

    lacks : IgvmInitializationHeader → Bool
    lacks = region_passes (no_context f.directives)

-- ---- the file

pub headers_say : (f : Headers) → NotRefused f
    ↔ ((is_refusal (platforms_refusal f) ≡ false) × (is_refusal (initializations_refusal f) ≡ false) × (is_refusal (directives_refusal f) ≡ false))
unfolding headers_refusal
headers_say f = (
  λ h.
      let (p, r) = (else_none (platforms_refusal f) _).0 h in
      let (i, d) = (else_none (initializations_refusal f) (directives_refusal f)).0 r in (p, i, d),
  λ (p, i, d). (else_none (platforms_refusal f) _).1 (p, (else_none (initializations_refusal f) (directives_refusal f)).1 (i, d)),
)

module _ (f : Headers) (h : NotRefused f) where
  platform_row : (i : ℕ) → i < f.platforms.count
      → (is_fault (own_platform_fault f.arch (f.platforms.row i)) ≡ false) × (any (same_type (f.platforms.row i)) (before i f.platforms) ≡ false)
  platform_row i l =
      (platform_says f.arch (before i f.platforms) (f.platforms.row i)).0 (((platforms_say f).0 ((headers_say f).0 h).0).0 i l)

  initialization_row : (i : ℕ) → i < f.initializations.count
      → (is_fault (own_initialization_fault f.arch (f.initializations.row i)) ≡ false)
      × (without_cca f.platforms (f.initializations.row i) ≡ none)
      × (any (regions_clash tables_share (f.initializations.row i)) (before i f.initializations) ≡ false)
      × (any (regions_clash overlap (f.initializations.row i)) (before i f.initializations) ≡ false)
  initialization_row i l =
      (initialization_says f.arch f.platforms (before i f.initializations) (f.initializations.row i)).0
      ((initializations_say f).0 ((headers_say f).0 h).1 i l)

  directive_row : (i : ℕ) → i < f.directives.count
      → (is_fault (own_directive_fault f.arch (f.directives.row i)) ≡ false)
      × (bad_area (before i f.directives) (f.directives.row i) ≡ false)
      × (inside_table f.initializations (f.directives.row i) ≡ false)
  directive_row i l =
      (directive_says f.arch f.initializations (before i f.directives) (f.directives.row i)).0
      (((directives_say f).0 ((headers_say f).0 h).2).0 i l)

  region_row : (i : ℕ) (r : Region) → i < f.initializations.count → region_of (f.initializations.row i) ≡ some r
      → (r.vp_index ≡ 0) × (any (is_context r.vtl r.mask) f.directives ≡ true)
  region_row i r l o = (no_context_lem f.directives r).0 (((directives_say f).0 ((headers_say f).0 h).2).1 i r l o)

  accepted_of : Accepted f
  accepted_of = record {
    platform = λ i l. (platform_row i l).0;
    types = earlier_apart same_type same_type_sym f.platforms (λ i l. (platform_row i l).1);
    some_platform = ((platforms_say f).0 ((headers_say f).0 h).0).1;
    initialization = λ i l. (initialization_row i l).0;
    cca = λ i l. (without_cca_lem f.platforms (f.initializations.row i)).0 (initialization_row i l).1;
    tables = earlier_apart (regions_clash tables_share) (regions_clash_sym tables_share tables_share_sym) f.initializations (λ i l. (initialization_row i l).2);
    regions = earlier_apart (regions_clash overlap) (regions_clash_sym overlap overlap_sym) f.initializations (λ i l. (initialization_row i l).3);
    directive = λ i l. (directive_row i l).0;
    allocated = λ area. earlier_once (allocates area) f.directives (λ i l g.
        ((bad_area_lem (before i f.directives) (f.directives.row i)).0 (directive_row i l).1 area (allocates_names area (f.directives.row i) g)).0 g);
    named = λ i area l o g. ((bad_area_lem (before i f.directives) (f.directives.row i)).0 (directive_row i l).1 area o).1 g;
    inserts = λ i l. (inside_table_lem f.initializations (f.directives.row i)).0 (directive_row i l).2;
    vp = λ i r l o. (region_row i r l o).0;
    context = λ i r l o. (region_row i r l o).1;
  }

not_refused : (f : Headers) → Accepted f → NotRefused f
not_refused f a =
    (headers_say f).1 (
      (platforms_say f).1 (
        λ i l. (platform_says f.arch (before i f.platforms) (f.platforms.row i)).1 (a.platform i l, apart_earlier same_type f.platforms a.types i l),
        a.some_platform,
      ),
      (initializations_say f).1 (λ i l.
          (initialization_says f.arch f.platforms (before i f.initializations) (f.initializations.row i)).1 (
            a.initialization i l,
            (without_cca_lem f.platforms (f.initializations.row i)).1 (a.cca i l),
            apart_earlier (regions_clash tables_share) f.initializations a.tables i l,
            apart_earlier (regions_clash overlap) f.initializations a.regions i l,
          )),
      (directives_say f).1 (
        λ i l.
            (directive_says f.arch f.initializations (before i f.directives) (f.directives.row i)).1 (
              a.directive i l,
              (bad_area_lem (before i f.directives) (f.directives.row i)).1 (λ area o. (
                once_earlier (allocates area) f.directives (a.allocated area) i l,
                a.named i area l o,
              )),
              (inside_table_lem f.initializations (f.directives.row i)).1 (a.inserts i l),
            ),
        λ i r l o. (no_context_lem f.directives r).1 (a.vp i r l o, a.context i r l o),
      ),
    )

-- the law of acceptance: none of 8 to 34 applies exactly when the rows are as `Accepted` says
pub accepted_says : (f : Headers) → (is_refusal (headers_refusal f) ≡ false) ↔ Accepted f
accepted_says f = (accepted_of f, not_refused f)
