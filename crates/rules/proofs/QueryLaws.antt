-- The mask's regions and its page-table region, by rows.
use Rattle.rows.{proofs.Kit.{◌≡◌, refl, ap, true, false≢true, ◌≢◌, Option, some, ℕ, ◌<◌, ℕ_discrete}, specs.Rows.{Rows, Apart, Once}, specs.Paired.{Paired, Into}, proofs.Bools.not_both, proofs.BelowLaws.{count_lt, nth_number}, proofs.PairedLaws.{nth_there, count_same, once_same}}
use Rattle.masks.{specs.Masks.matches, proofs.MaskLaws.matches_shares}
use Rattle.initialization_header.{specs.declared.IgvmInitializationHeader.IgvmInitializationHeader, specs.declared.IgvmInitializationHeader.TheVariants.{GuestPolicy, CcaPolicy, RelocatableRegion, PageTableRelocationRegion}}
use Rattle.rules.specs.{declared.Region.Region, Regions.{region_of, tables_share, regions_clash}, Relocations.{is_relocatable, is_page_table, relocatable_of, page_table_of, region_count, region_at, page_table_at}, Options.then, Reordered.region_number}
use Rattle.rules.proofs.RegionLaws.{tables_share_says, regions_clash_lem}

-- ---- rows that match a mask

pub page_table_region : (given : ℕ) (h : IgvmInitializationHeader) → is_page_table given h ≡ true
    → (r : Region) × (region_of h ≡ some r) × (r.page_table ≡ true) × (matches given r.mask ≡ true)
page_table_region given (GuestPolicy policy mask) e = absurd (false≢true e)
page_table_region given (CcaPolicy mask zeroes ones) e = absurd (false≢true e)
page_table_region given (RelocatableRegion mask alignment gpa size minimum maximum vtl2 rip gdtr vp vtl) e = absurd (false≢true e)
page_table_region given (PageTableRelocationRegion mask gpa size used vp vtl) e = (_, refl, refl, e)

-- where no two page tables share a bit, a mask has one at most
pub one_table : (xs : Rows IgvmInitializationHeader) → Apart (regions_clash tables_share) xs → (given : ℕ) → given ≢ 0 → Once (is_page_table given) xs
one_table xs apart given n i j l k g h = go (ℕ_discrete i j)
  where
    go : Dec (i ≡ j) → i ≡ j
    go (yes e) = e
    go (no d) =
        let (r, o, t, m) = page_table_region given (xs.row i) g in
        let (q, p, u, w) = page_table_region given (xs.row j) h in
        not_both (apart i j l k d)
        ((regions_clash_lem tables_share (xs.row i) (xs.row j)).1 (r, q, o, p, (tables_share_says r q).1 (t, u, matches_shares given r.mask q.mask n m w)))

-- ---- a region by its number

module _ (xs : Rows IgvmInitializationHeader) (given i : ℕ) (l : i < xs.count) (g : is_relocatable given (xs.row i) ≡ true) where
  -- the number is one of the mask's: no 36
  pub number_below : region_number xs given i < region_count xs given
  unfolding region_count
  number_below = count_lt i xs.count (λ j. is_relocatable given (xs.row j)) l g

  pub region_found : region_at xs given (region_number xs given i) ≡ relocatable_of (xs.row i)
  unfolding region_at
  region_found = rw (nth_number xs.count (λ j. is_relocatable given (xs.row j)) i l g)

-- ---- lists that pair off

pub region_there : {Tied : IgvmInitializationHeader → IgvmInitializationHeader → Type 0} {xs ys : Rows IgvmInitializationHeader}
    (I : Into Tied xs ys) (given i : ℕ) → i < xs.count → is_relocatable given (xs.row i) ≡ true
    → region_at xs given (region_number xs given i) ≡ region_at ys given (region_number ys given (I.to i))
unfolding region_at
region_there I given i l g = ap (λ (o : Option IgvmInitializationHeader). then o relocatable_of) (nth_there I (is_relocatable given) i l g)

module _ {Tied : IgvmInitializationHeader → IgvmInitializationHeader → Type 0} {xs ys : Rows IgvmInitializationHeader} (P : Paired Tied xs ys) where
  pub region_count_same : (given : ℕ) → region_count xs given ≡ region_count ys given
  unfolding region_count
  region_count_same given = count_same P (is_relocatable given)

  pub page_table_same : Apart (regions_clash tables_share) xs → (given : ℕ) → given ≢ 0 → page_table_at xs given ≡ page_table_at ys given
  unfolding page_table_at
  page_table_same apart given n =
      ap (λ (o : Option IgvmInitializationHeader). then o page_table_of) (once_same P (is_page_table given) (one_table xs apart given n))
