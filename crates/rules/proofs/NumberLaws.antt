-- Which numbers a report's words may have: of a platform row 0 and 8 to 14, of an initialization row 0 and 16 to 29, of a directive row 0, 21, 22, 24 and 30 to 33.
-- So no word is 15, 34 or a number of another call; and every refusal of the headers has a number of at least 8.
use Rattle.rows.{proofs.Kit.{◌≡◌, refl, Bool, true, false, cond, not, ◌&&◌, ◌||◌, ◌≢◌, inl, inr, Option, none, some, ℕ, ◌+◌, ◌-◌, ◌≤◌, ◌<◌, arith, eqb, leb, ltb, eqb-true, eqb-false, leb-true, not-true}, specs.Below.first_below, specs.Rows.{Rows, any}, proofs.Bools.{or_cases, and_parts}}
use Rattle.igvm_defs.{specs.declared.Arch.Arch, specs.declared.Fault.Fault, specs.declared.Refusal.Refusal, specs.Refusals.{refusal, no_refusal, fault, no_fault, is_fault, is_refusal, refuse, or_fault, in_row, or_else, refusal_at, first_fault}, specs.Platforms.{is_platform_type, platform_type_of}}
use Rattle.masks.specs.Masks.{shares, is_one_bit}
use Rattle.addresses.specs.Addresses.{is_multiple, on_page, ends_beyond}
use Rattle.platform_header.specs.declared.IgvmPlatformHeader.{IgvmPlatformHeader}
use Rattle.initialization_header.specs.{declared.IgvmInitializationHeader.IgvmInitializationHeader, Fields.initialization_fields}
use Rattle.directive_header.specs.{declared.IgvmDirectiveHeader.IgvmDirectiveHeader, Fields.{directive_fields, kind_number}}
use Rattle.rules.specs.{Headers.Headers, Regions.{region_passes, tables_share, overlap}, Platforms.{validate_platform, stands_with, own_platform_fault, same_type, platform_fault}, Initializations.{validate_region, validate_table, validate_initialization, wrong_policy_arch, without_cca, refuse_bit, initialization_fault}, Directives.{has_address, has_pages, too_long, validate_directive, wrong_context_arch, own_directive_fault, bad_area, inside_table, no_context, directive_fault}, Verdict.{no_platform, no_matching_vp_context, headers_refusal}, Report.{platform_report, initialization_report, directive_report, kept_headers, rows_of, report_fault, report_word}}
use Rattle.rules.proofs.ReportLaws.{verdict_is}

-- ---- chains of tests

-- the number of the fault passes
record Passes (p : ℕ → Bool) (f : Fault) : Type 0 where
  passes : p f.number ≡ true

module _ (p : ℕ → Bool) where
  -- a test, then the later tests
  test : (b : Bool) (n d : ℕ) (later : Fault) → p n ≡ true → Passes p later → Passes p (refuse b (fault n d) later)
  test true n d later e h = record { passes = e }
  test false n d later e h = h

  either : (b : Bool) (f g : Fault) → Passes p f → Passes p g → Passes p (cond b f g)
  either true f g k h = k
  either false f g k h = h

  tests : (f later : Fault) → Passes p f → Passes p later → Passes p (or_fault f later)
  tests f later k h = either (is_fault f) f later k h

  bit : (o : Option ℕ) (later : Fault) → p 25 ≡ true → Passes p later → Passes p (refuse_bit o later)
  bit none later e h = h
  bit (some mask) later e h = record { passes = e }

-- ---- platform rows

abbrev pub platform_number : ℕ → Bool
platform_number n = eqb n 0 || (leb 8 n && leb n 14)

no_platform_lem : Passes platform_number no_fault
no_platform_lem = record { passes = refl }

validate_platform_lem : (h : IgvmPlatformHeader) → Passes platform_number (validate_platform h)
unfolding validate_platform
validate_platform_lem h =
    test platform_number (not (is_one_bit h.compatibility_mask)) 8 0 _ refl
    (test platform_number (not (eqb h.highest_vtl 0 || eqb h.highest_vtl 2)) 9 0 _ refl
    (test platform_number (not (is_platform_type h.platform_type)) 12 0 _ refl
    (test platform_number (not (eqb h.platform_version (platform_type_of h.platform_type).version)) 10 0 _ refl
    (test platform_number ((platform_type_of h.platform_type).unshared && not (eqb h.shared_gpa_boundary 0)) 11 0 no_fault refl
    no_platform_lem))))

platform_fault_lem : (arch : Arch) (earlier : Rows IgvmPlatformHeader) (h : IgvmPlatformHeader) → Passes platform_number (platform_fault arch earlier h)
unfolding platform_fault own_platform_fault
platform_fault_lem arch earlier h =
    tests platform_number (own_platform_fault arch h) _
    (tests platform_number (validate_platform h) _ (validate_platform_lem h)
    (test platform_number (not (stands_with arch (platform_type_of h.platform_type))) 13 h.platform_type no_fault refl no_platform_lem))
    (test platform_number (any (same_type h) earlier) 14 0 no_fault refl no_platform_lem)

-- ---- initialization rows

abbrev pub initialization_number : ℕ → Bool
initialization_number n = eqb n 0 || (leb 16 n && leb n 29)

no_initialization_lem : Passes initialization_number no_fault
no_initialization_lem = record { passes = refl }

validate_region_lem : (alignment gpa size minimum maximum : ℕ) → Passes initialization_number (validate_region alignment gpa size minimum maximum)
unfolding validate_region
validate_region_lem alignment gpa size minimum maximum =
    test initialization_number (not (on_page size)) 17 0 _ refl
    (test initialization_number (not (on_page alignment)) 18 0 _ refl
    (test initialization_number (eqb alignment 0) 19 0 _ refl
    (test initialization_number (not (is_multiple gpa alignment)) 20 gpa _ refl
    (test initialization_number (not (is_multiple minimum alignment)) 20 minimum _ refl
    (test initialization_number (not (is_multiple maximum alignment)) 20 maximum no_fault refl
    no_initialization_lem)))))

validate_table_lem : (gpa size used : ℕ) → Passes initialization_number (validate_table gpa size used)
unfolding validate_table
validate_table_lem gpa size used =
    test initialization_number (not (on_page gpa)) 21 gpa _ refl
    (test initialization_number (not (on_page size)) 22 size _ refl
    (test initialization_number (not (on_page used)) 22 used _ refl
    (test initialization_number (ltb size used) 23 0 no_fault refl
    no_initialization_lem)))

validate_initialization_lem : (h : IgvmInitializationHeader) → Passes initialization_number (validate_initialization h)
validate_initialization_lem h =
    let d = initialization_fields h in
    test initialization_number (eqb d.kind 17 && shares d.zeroes d.ones) 16 0 _ refl
    (either initialization_number (eqb d.kind 18) _ _ (validate_region_lem d.alignment d.gpa d.size d.minimum d.maximum)
    (either initialization_number (eqb d.kind 19) _ _ (validate_table_lem d.gpa d.size d.used)
    no_initialization_lem))

initialization_fault_lem : (arch : Arch) (platforms : Rows IgvmPlatformHeader) (earlier : Rows IgvmInitializationHeader) (h : IgvmInitializationHeader)
    → Passes initialization_number (initialization_fault arch platforms earlier h)
unfolding initialization_fault
initialization_fault_lem arch platforms earlier h =
    tests initialization_number (validate_initialization h) _ (validate_initialization_lem h)
    (test initialization_number (wrong_policy_arch arch h) 24 17 _ refl
    (bit initialization_number (without_cca platforms h) _ refl
    (test initialization_number (region_passes (λ r. any (region_passes (tables_share r)) earlier) h) 26 0 _ refl
    (test initialization_number (region_passes (λ r. eqb r.size 0) h) 27 0 _ refl
    (test initialization_number (region_passes (λ r. ends_beyond r.gpa r.size) h) 28 0 _ refl
    (test initialization_number (region_passes (λ r. any (region_passes (overlap r)) earlier) h) 29 0 no_fault refl
    no_initialization_lem))))))

-- ---- directive rows

abbrev pub directive_number : ℕ → Bool
directive_number n = eqb n 0 || (eqb n 21 || (eqb n 22 || (eqb n 24 || (leb 30 n && leb n 33))))

no_directive_lem : Passes directive_number no_fault
no_directive_lem = record { passes = refl }

validate_directive_lem : (h : IgvmDirectiveHeader) → Passes directive_number (validate_directive h)
validate_directive_lem h =
    let d = directive_fields h in
    test directive_number (has_address d.kind && not (on_page d.gpa)) 21 d.gpa _ refl
    (test directive_number (eqb d.kind 32 && ltb 3 d.type) 30 0 _ refl
    (test directive_number (has_pages d.kind && not (on_page d.bytes)) 22 d.bytes _ refl
    (test directive_number (too_long d) 31 0 no_fault refl
    no_directive_lem)))

directive_fault_lem : (arch : Arch) (initializations : Rows IgvmInitializationHeader) (earlier : Rows IgvmDirectiveHeader) (h : IgvmDirectiveHeader)
    → Passes directive_number (directive_fault arch initializations earlier h)
unfolding directive_fault own_directive_fault
directive_fault_lem arch initializations earlier h =
    tests directive_number (own_directive_fault arch h) _
    (tests directive_number (validate_directive h) _ (validate_directive_lem h)
    (test directive_number (wrong_context_arch arch (kind_number h)) 24 (kind_number h) no_fault refl no_directive_lem))
    (test directive_number (bad_area earlier h) 32 0 _ refl
    (test directive_number (inside_table initializations h) 33 0 no_fault refl
    no_directive_lem))

-- ---- every word

-- 0, or 8 to 14, or 16 to 33
pub record WordNumber (n : ℕ) : Type 0 where
  pub most : n ≤ 33
  pub least : 0 < n → 8 ≤ n
  pub not_15 : n ≢ 15

between : (a e n : ℕ) → (leb a n && leb n e) ≡ true → (a ≤ n) × (n ≤ e)
between a e n h = let (p, q) = and_parts (leb a n) (leb n e) h in (leb-true a n p, leb-true n e q)

platform_word_number : (n : ℕ) → platform_number n ≡ true → WordNumber n
platform_word_number n h =
    elim (or_cases (eqb n 0) (leb 8 n && leb n 14) h) [
      | inl e ↦ let z = eqb-true n 0 e in omega arith
      | inr e ↦ let (l, m) = between 8 14 n e in omega arith
    ]

initialization_word_number : (n : ℕ) → initialization_number n ≡ true → WordNumber n
initialization_word_number n h =
    elim (or_cases (eqb n 0) (leb 16 n && leb n 29) h) [
      | inl e ↦ let z = eqb-true n 0 e in omega arith
      | inr e ↦ let (l, m) = between 16 29 n e in omega arith
    ]

directive_word_number : (n : ℕ) → directive_number n ≡ true → WordNumber n
directive_word_number n h =
    elim (or_cases (eqb n 0) _ h) [
      | inl e ↦ let z = eqb-true n 0 e in omega arith
      | inr a ↦
          elim (or_cases (eqb n 21) _ a) [
            | inl e ↦ let z = eqb-true n 21 e in omega arith
            | inr b ↦
                elim (or_cases (eqb n 22) _ b) [
                  | inl e ↦ let z = eqb-true n 22 e in omega arith
                  | inr c ↦
                      elim (or_cases (eqb n 24) (leb 30 n && leb n 33) c) [
                        | inl e ↦ let z = eqb-true n 24 e in omega arith
                        | inr e ↦ let (l, m) = between 30 33 n e in omega arith
                      ]
                ]
          ]
    ]

module _ (f : Headers) where
  -- a platform row's is 0, or 8 to 14
  pub platform_numbers : (i : ℕ) → platform_number (platform_report f i).number ≡ true
  platform_numbers i = (platform_fault_lem f.arch _ (f.platforms.row i)).passes

  -- an initialization row's is 0, or 16 to 29
  pub initialization_numbers : (i : ℕ) → initialization_number (initialization_report f i).number ≡ true
  initialization_numbers i = (initialization_fault_lem f.arch _ _ (f.initializations.row i)).passes

  -- a directive row's is 0, 21, 22, 24, or 30 to 33
  pub directive_numbers : (i : ℕ) → directive_number (directive_report f i).number ≡ true
  directive_numbers i = (directive_fault_lem f.arch _ _ (f.directives.row i)).passes

  -- every word is 0, or 8 to 14, or 16 to 33
  pub word_numbers : (k : ℕ) → WordNumber (report_word f k)
  unfolding report_fault
  word_numbers k =
      list (ltb k f.platforms.count) _ _ (platform_word_number _ (platform_numbers k))
      (list (ltb k (f.platforms.count + f.initializations.count)) _ _ (initialization_word_number _ (initialization_numbers (k - f.platforms.count)))
      (directive_word_number _ (directive_numbers (k - (f.platforms.count + f.initializations.count)))))
    where
      list : (b : Bool) (x y : Fault) → WordNumber x.number → WordNumber y.number → WordNumber (cond b x y).number
      list true x y a c = a
      list false x y a c = c

  -- so none is higher than 33
  pub word_most : (k : ℕ) → report_word f k ≤ 33
  word_most k = (word_numbers k).most

-- ---- the verdict

-- 0, or 8 and more
abbrev Least : ℕ → Type 0
Least n = 0 < n → 8 ≤ n

-- the refusal has the number of the fault
fault_least : (row : ℕ) (x : Fault) → Least x.number → Least (in_row row x).number
unfolding in_row
fault_least row x h = go (is_fault x)
  where
    go : (b : Bool) → Least (cond b (refusal x.number row x.detail) no_refusal).number
    go true = h
    go false = λ z. omega arith

-- so has that of the first row with a fault
first_least : (first n : ℕ) (x : ℕ → Fault) → ((i : ℕ) → Least (x i).number) → Least (first_fault first n x).number
unfolding first_fault
first_least first n x h = go (first_below n (λ i. is_fault (x i)))
  where
    go : (o : Option ℕ) → Least (refusal_at first x o).number
    go none = λ z. omega arith
    go (some i) = h i

-- one refusal, else another
else_least : (r later : Refusal) → Least r.number → Least later.number → Least (or_else r later).number
unfolding or_else
else_least r later k h = go (is_refusal r)
  where
    go : (b : Bool) → Least (cond b r later).number
    go true = k
    go false = h

module _ (f : Headers) where
  -- 15, or 0
  least_15 : Least (no_platform f).number
  unfolding no_platform
  least_15 = go (eqb f.platforms.count 0)
    where
      go : (b : Bool) → Least (refuse b (fault 15 0) no_fault).number
      go true = λ z. omega arith
      go false = λ z. omega arith

  -- 34, or 0
  least_34 : Least (no_matching_vp_context f).number
  unfolding no_matching_vp_context
  least_34 = go (any (region_passes (no_context f.directives)) f.initializations)
    where
      go : (b : Bool) → Least (refuse b (fault 34 0) no_fault).number
      go true = λ z. omega arith
      go false = λ z. omega arith

-- a refusal of the headers has a number of at least 8
pub headers_least : (f : Headers) → is_refusal (headers_refusal f) ≡ true → 8 ≤ (headers_refusal f).number
unfolding is_refusal
headers_least f t =
    let some : (headers_refusal f).number ≢ 0 = eqb-false (headers_refusal f).number 0 (not-true (eqb (headers_refusal f).number 0) t) in
    least (omega arith)
  where
    least : Least (headers_refusal f).number
    least =
        rw (verdict_is f)
        (else_least (in_row 0 (no_platform f)) _ (fault_least 0 (no_platform f) (least_15 f))
        (else_least (first_fault 0 (rows_of f) (report_fault f)) _ (first_least 0 (rows_of f) (report_fault f) (λ k. (word_numbers f k).least))
        (fault_least 0 (no_matching_vp_context (kept_headers f)) (least_34 (kept_headers f)))))
