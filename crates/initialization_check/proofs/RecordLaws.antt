-- The record of regions answers for the rows that it holds.
use Rattle.rows.{proofs.Kit.{◌≡◌, refl, sym, subst, ap, ap₂, ◌∙◌, Bool, true, false, ◌||◌, or-false, List, none, some, ℕ, ◌+◌, ◌<◌, ◌≤◌, add-zero, arith, ltb, length, length-set, set, get_or-set_same, get_or-set_other, ltb-true, ltb-false}, specs.Below.{any_below, sum_below, count_below}, specs.Rows.{Rows, before}, specs.Same.SameRows, proofs.SameLaws.any_rows, proofs.BelowLaws.{any_more, any_same_tests, count_more, count_same_tests}}
use Rattle.initialization_header.specs.declared.IgvmInitializationHeader.{IgvmInitializationHeader}
use Rattle.rules.{specs.declared.Region.Region, specs.Regions.{region_of, region_passes, tables_share, overlap}}
use Rattle.reloc_regions.specs.{declared.RelocRegions.RelocRegions, Regions.{entry, pushed, Lengths}}
use Rattle.by_start.{specs.{declared.Order.Order, ByStart.{Ordered, PlacedAt, More, linked}}, proofs.OrderedLaws.{ordered_stored_linked, linked_long}}
use Rattle.initialization_check.specs.Record.{any_region, HoldsRegions, RegionOfRow, HoldsRows, HoldsClashes}

-- no region, and no row
pub holds_none : {N : ℕ} (r : RelocRegions N) (xs : Rows IgvmInitializationHeader) → r.count ≡ 0 → HoldsRegions r (before 0 xs)
unfolding any_below
holds_none r xs e = record { count = omega arith; same = λ p. rw e }

pub rows_none : {N : ℕ} (first : ℕ) (rows : List ℕ) (r : RelocRegions N) (xs : Rows IgvmInitializationHeader) → r.count ≡ 0 → HoldsRows first rows r (before 0 xs)
unfolding sum_below
rows_none first rows r xs e = record { each = λ i l. absurd (omega arith); counts = λ p. rw e }

-- lists with the same rows have the same regions
pub holds_same : {N : ℕ} (r : RelocRegions N) {xs ys : Rows IgvmInitializationHeader} → SameRows xs ys → HoldsRegions r xs → HoldsRegions r ys
holds_same r S held = record { count = let e = S.count in let l = held.count in omega arith; same = λ p. held.same p ∙ any_rows S (region_passes p) }

-- the record tells what clashes with a region
pub holds_clashes : {N : ℕ} (r : RelocRegions N) (xs : Rows IgvmInitializationHeader) → HoldsRegions r xs → HoldsClashes r xs
unfolding tables_share overlap
holds_clashes r xs held = record { tables_share_lem = λ new. held.same (tables_share new); overlaps = λ new. held.same (overlap new) }

-- ---- a row more with no region: the record stays

pub holds_without : {N : ℕ} (r : RelocRegions N) (xs : Rows IgvmInitializationHeader) (i : ℕ) → region_of (xs.row i) ≡ none → HoldsRegions r (before i xs)
    → HoldsRegions r (before (i + 1) xs)
unfolding region_passes
holds_without r xs i e held =
    record {
      count = let l = held.count in omega arith;
      same = λ p. held.same p ∙ rw (any_more i (λ j. region_passes p (xs.row j)), e, or-false);
    }

pub rows_without : {N : ℕ} (first : ℕ) (rows : List ℕ) (r : RelocRegions N) (xs : Rows IgvmInitializationHeader) (i : ℕ) → region_of (xs.row i) ≡ none
    → HoldsRows first rows r (before i xs) → HoldsRows first rows r (before (i + 1) xs)
unfolding region_passes
rows_without first rows r xs i e held =
    record {
      each = λ d l. let (j, h) = held.each d l in (j, record { below = let b = h.below in omega arith; number = h.number; region = h.region; earlier = h.earlier });
      counts = λ p. held.counts p ∙ rw (count_more i (λ j. region_passes p (xs.row j)), e, add-zero);
    }

-- ---- a row more with a region, which the record has behind its own

module _ {N : ℕ} (r : RelocRegions N) (new : Region) (lengths : Lengths (pushed r new)) (room : r.count < N) where
  entry_before : (i : ℕ) → i < r.count → entry (pushed r new) i ≡ entry r i
  entry_before i l =
      let ne : (i ≡ r.count → ⊥) = λ e. omega arith in
      rw (
        get_or-set_other r.mask r.count i new.mask 0 ne,
        get_or-set_other r.gpa r.count i new.gpa 0 ne,
        get_or-set_other r.size r.count i new.size 0 ne,
        get_or-set_other r.vp_index r.count i new.vp_index 0 ne,
        get_or-set_other r.vtl r.count i new.vtl 0 ne,
        get_or-set_other r.page_table r.count i new.page_table false ne,
      )

  entry_last : entry (pushed r new) r.count ≡ new
  entry_last =
      let m : r.count < length r.mask = rw (simp length-set at lengths.mask) room in
      let g : r.count < length r.gpa = rw (simp length-set at lengths.gpa) room in
      let s : r.count < length r.size = rw (simp length-set at lengths.size) room in
      let p : r.count < length r.vp_index = rw (simp length-set at lengths.vp_index) room in
      let v : r.count < length r.vtl = rw (simp length-set at lengths.vtl) room in
      let t : r.count < length r.page_table = rw (simp length-set at lengths.page_table) room in
      rw (
        get_or-set_same r.mask r.count new.mask 0 m,
        get_or-set_same r.gpa r.count new.gpa 0 g,
        get_or-set_same r.size r.count new.size 0 s,
        get_or-set_same r.vp_index r.count new.vp_index 0 p,
        get_or-set_same r.vtl r.count new.vtl 0 v,
        get_or-set_same r.page_table r.count new.page_table false t,
      )

  -- the regions that the record had
  same_before : (e : ℕ) → e ≤ r.count → (p : Region → Bool) → any_below e (λ i. p (entry (pushed r new) i)) ≡ any_below e (λ i. p (entry r i))
  same_before e l p = any_same_tests e (λ i. p (entry (pushed r new) i)) (λ i. p (entry r i)) (λ i k. ap p (entry_before i (omega arith)))

  -- and the one behind them
  any_pushed : (p : Region → Bool) → any_region p (pushed r new) ≡ (any_region p r || p new)
  any_pushed p =
      any_more r.count (λ i. p (entry (pushed r new) i)) ∙ ap₂ (λ (a b : Bool). a || b) (same_before r.count (omega arith) p) (ap p entry_last)

  pub holds_pushed : (xs : Rows IgvmInitializationHeader) (i : ℕ) → region_of (xs.row i) ≡ some new → HoldsRegions r (before i xs) → HoldsRegions (pushed r new) (before (i + 1) xs)
  unfolding region_passes
  holds_pushed xs i e held =
      record {
        count = let l = held.count in omega arith;
        same = λ p. any_pushed p ∙ rw (held.same p, any_more i (λ j. region_passes p (xs.row j)), e);
      }

  count_before : (p : Region → Bool) → count_below r.count (λ e. p (entry (pushed r new) e)) ≡ count_below r.count (λ e. p (entry r e))
  count_before p = count_same_tests r.count (λ e. p (entry (pushed r new) e)) (λ e. p (entry r e)) (λ e l. ap p (entry_before e l))

  module _ (first : ℕ) (rows : List ℕ) (xs : Rows IgvmInitializationHeader) (i : ℕ) (regions : HoldsRegions r (before i xs)) (held : HoldsRows first rows r (before i xs)) where
    -- a region that the record had keeps its row
    each_before : (e : ℕ) → e < r.count → (j : ℕ) × RegionOfRow first (set rows r.count (first + i + 1)) (pushed r new) (before (i + 1) xs) e j
    each_before e l =
        let (j, h) = held.each e l in
        let ne : (e ≡ r.count → ⊥) = λ q. omega arith in (
          j,
          record {
            below = let b = h.below in omega arith;
            number = rw (get_or-set_other rows r.count e (first + i + 1) 0 ne) h.number;
            region = rw (entry_before e l) h.region;
            earlier = λ p. same_before e (omega arith) p ∙ h.earlier p;
          },
        )

    pub rows_pushed : r.count < length rows → region_of (xs.row i) ≡ some new → HoldsRows first (set rows r.count (first + i + 1)) (pushed r new) (before (i + 1) xs)
    unfolding region_passes
    rows_pushed l f =
        record {
          each = λ e h. go e h (ltb e r.count) refl;
          counts =
              λ p.
              count_more r.count (λ e. p (entry (pushed r new) e)) ∙ ap₂ (λ (a b : ℕ). a + b) (count_before p ∙ held.counts p) (rw (entry_last, f))
              ∙ sym (count_more i (λ j. region_passes p (xs.row j)));
        }
      where
        go : (e : ℕ) → e < r.count + 1 → (b : Bool) → ltb e r.count ≡ b
            → (j : ℕ) × RegionOfRow first (set rows r.count (first + i + 1)) (pushed r new) (before (i + 1) xs) e j
        go e h true t = each_before e (ltb-true e r.count t)
        go e h false t =
            let m = ltb-false e r.count t in
            let q : e ≡ r.count = omega arith in
            rw q (
              i,
              record {
                below = omega arith;
                number = get_or-set_same rows r.count (first + i + 1) 0 l;
                region = rw entry_last f;
                earlier = λ p. same_before r.count (omega arith) p ∙ regions.same p;
              },
            )

-- and its place in order of start, where the order has room for one more
pub ordered_behind : {N M : ℕ} (r q : RelocRegions N) (o w : Order M) (new : Region) (at from : ℕ) → r.count < N → r.count + 1 < M → Ordered o.next r.gpa r.size r.count o
    → PlacedAt o.next r.gpa r.count new.gpa at → from ≤ r.count → q ≡ pushed r new → Lengths q → w.next ≡ linked o.next at r.count → length w.next ≡ M
    → More o from new.size r.count w → Ordered w.next q.gpa q.size q.count w
ordered_behind {N} {M} r q o w new at from room wide ordered placed low regions arrays next places more =
    let ls = rw regions at arrays in
    let starts : r.count < length r.gpa = let z : length r.gpa ≡ N = simp length-set at ls.gpa in omega arith in
    let long : r.count < length r.size = let z : length r.size ≡ N = simp length-set at ls.size in omega arith in
    let free : r.count + 1 < length o.next = let z : length o.next ≡ M = rw linked_long at (rw next at places) in omega arith in
    subst (λ (x : List ℕ). Ordered x q.gpa q.size q.count w) (sym next)
    (rw regions (ordered_stored_linked o.next r.gpa r.size r.count o new.gpa new.size at from w ordered starts long placed low free more))

-- where the order has a place behind the last region that the record has room for
pub ordered_pushed : {N M : ℕ} (r q : RelocRegions N) (o w : Order M) (new : Region) (at from : ℕ) → r.count < N → N < M → Ordered o.next r.gpa r.size r.count o
    → PlacedAt o.next r.gpa r.count new.gpa at → from ≤ r.count → q ≡ pushed r new → Lengths q → w.next ≡ linked o.next at r.count → length w.next ≡ M
    → More o from new.size r.count w → Ordered w.next q.gpa q.size q.count w
ordered_pushed r q o w new at from room wide ordered placed low regions arrays next places more =
    ordered_behind r q o w new at from room (omega arith) ordered placed low regions arrays next places more
