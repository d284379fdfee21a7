-- What one row more adds to a count of rows that pass, and to the row found by its number.
use Rattle.rows.{proofs.Kit.{◌≡◌, refl, ◌∙◌, Bool, true, false, not, cond, ◌&&◌, Option, none, some, ℕ, zero, suc, ◌+◌, ◌≤◌, add-zero, add-one, and-false, ◌≢◌, arith, ne_eqb, eqb}, specs.Below.{sum_below, nth_below}, specs.Rows.{Rows, row_at, before, count_of, nth}, proofs.BelowLaws.{count_more, count_le, nth_more}}
use Rattle.initialization_header.{specs.declared.IgvmInitializationHeader.IgvmInitializationHeader, specs.declared.IgvmInitializationHeader.TheVariants.{GuestPolicy, CcaPolicy, RelocatableRegion, PageTableRelocationRegion}}
use Rattle.rules.{specs.Relocations.{is_relocatable, is_page_table, relocatable_of, page_table_of, region_count, region_at, page_table_at}, specs.Options.then}

-- whether something is there
abbrev pub is_there : {A : Type 0} → Option A → Bool
is_there none = false
is_there (some a) = true

-- ---- any rows

row_before : {H : Type 0} (xs : Rows H) (i : ℕ) (o : Option ℕ) → row_at (before i xs) o ≡ row_at xs o
row_before xs i none = refl
row_before xs i (some j) = refl

module _ {H A : Type 0} (p : H → Bool) (of : H → Option A) (xs : Rows H) where
  found_more : (i k : ℕ) → then (nth p (before (i + 1) xs) k) of
      ≡ cond (p (xs.row i) && eqb (count_of p (before i xs)) k) (of (xs.row i)) (then (nth p (before i xs) k) of)
  found_more i k =
      let q : ℕ → Bool = λ j. p (xs.row j) in
      rw (row_before xs (i + 1) (nth_below (i + 1) q k), row_before xs i (nth_below i q k))
      (nth_more (λ o. then (row_at xs o) of) i q k)

-- ---- initialization rows

-- a page table of the mask is found
pub table_is_found : (given : ℕ) (h : IgvmInitializationHeader) → is_page_table given h ≡ true → is_there (page_table_of h) ≡ true
table_is_found given (GuestPolicy a b) e = e
table_is_found given (CcaPolicy a b c) e = e
table_is_found given (RelocatableRegion a b c d e f g h i j k) t = t
table_is_found given (PageTableRelocationRegion a b c d e f) t = refl

none_more : {A : Type 0} (is : Bool) (n : ℕ) (new old : Option A) → (is ≡ true → is_there new ≡ true) → not (is_there old) ≡ eqb n 0
    → not (is_there (cond (is && eqb n 0) new old)) ≡ eqb (n + cond is 1 0) 0
none_more true zero new old h e = rw (h refl)
none_more true (suc n) new old h e =
    let some-before = ne_eqb (suc n) 0 (omega arith) in
    rw (some-before, ne_eqb (suc n + 1) 0 (omega arith)) (e ∙ some-before)
none_more false n new old h e = rw add-zero e

module _ (xs : Rows IgvmInitializationHeader) (given : ℕ) where
  pub regions_more : (i : ℕ) → region_count (before (i + 1) xs) given ≡ region_count (before i xs) given + cond (is_relocatable given (xs.row i)) 1 0
  unfolding region_count
  regions_more i = count_more i (λ j. is_relocatable given (xs.row j))

  pub regions_few : (i : ℕ) → region_count (before i xs) given ≤ i
  unfolding region_count
  regions_few i = count_le i (λ j. is_relocatable given (xs.row j))

  pub region_more : (i k : ℕ) → region_at (before (i + 1) xs) given k
      ≡ cond (is_relocatable given (xs.row i) && eqb (region_count (before i xs) given) k) (relocatable_of (xs.row i)) (region_at (before i xs) given k)
  unfolding region_count region_at
  region_more = found_more (is_relocatable given) relocatable_of xs

  -- a row that is no region of the mask
  pub row_passed : (i k : ℕ) → is_relocatable given (xs.row i) ≡ false
      → (region_count (before (i + 1) xs) given ≡ region_count (before i xs) given) × (region_at (before (i + 1) xs) given k ≡ region_at (before i xs) given k)
  row_passed i k m = (regions_more i ∙ rw (m, add-zero), region_more i k ∙ rw m)

  -- a row that is one, but not region k
  pub region_counted : (i seen : ℕ) → seen ≡ region_count (before i xs) given → is_relocatable given (xs.row i) ≡ true → seen + 1 ≡ region_count (before (i + 1) xs) given
  region_counted i seen e m = rw (regions_more i, m, e)

  pub other_passed : (i k seen : ℕ) → seen ≡ region_count (before i xs) given → region_at (before i xs) given k ≡ none → seen ≢ k → region_at (before (i + 1) xs) given k ≡ none
  other_passed i k seen e none_yet d = region_more i k ∙ rw (← e, ne_eqb seen k d, and-false, none_yet)

  tables_more : (i : ℕ) → count_of (is_page_table given) (before (i + 1) xs) ≡ count_of (is_page_table given) (before i xs) + cond (is_page_table given (xs.row i)) 1 0
  tables_more i = count_more i (λ j. is_page_table given (xs.row j))

  first_more : (i : ℕ) → page_table_at (before (i + 1) xs) given
      ≡ cond (is_page_table given (xs.row i) && eqb (count_of (is_page_table given) (before i xs)) 0) (page_table_of (xs.row i)) (page_table_at (before i xs) given)
  unfolding page_table_at
  first_more i = found_more (is_page_table given) page_table_of xs i 0

  none_first : not (is_there (page_table_at (before 0 xs) given)) ≡ eqb (count_of (is_page_table given) (before 0 xs)) 0
  unfolding page_table_at sum_below nth_below
  none_first = refl

  -- no table is found exactly where there is none
  none_found : (i : ℕ) → not (is_there (page_table_at (before i xs) given)) ≡ eqb (count_of (is_page_table given) (before i xs)) 0
  none_found zero = none_first
  none_found (suc i) =
      rw (← add-one i, first_more i, tables_more i)
      (none_more (is_page_table given (xs.row i)) (count_of (is_page_table given) (before i xs)) _ _ (table_is_found given (xs.row i)) (none_found i))

  pub table_more : (i : ℕ) → page_table_at (before (i + 1) xs) given
      ≡ cond (is_page_table given (xs.row i) && not (is_there (page_table_at (before i xs) given))) (page_table_of (xs.row i)) (page_table_at (before i xs) given)
  table_more i = rw (none_found i) (first_more i)
