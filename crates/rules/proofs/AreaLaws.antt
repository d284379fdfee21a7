-- Laws of parameter areas: which header allocates, inserts or names an area, and when 32 finds nothing.
use Rattle.rows.{proofs.Kit.{◌≡◌, refl, sym, ap, Bool, true, false, cond, not, false≢true, and-true, ◌↔◌, Option, none, some, ℕ, ◌<◌, dec_lt, arith, eqb, eqb-true, eq-eqb, not-false}, specs.Rows.{Rows, any, before, Once}, proofs.Bools.{not_both, is_false, and_parts}, proofs.BelowLaws.{any_below_lem, some_below}}
use Rattle.directive_header.{specs.declared.IgvmDirectiveHeader.IgvmDirectiveHeader, specs.Fields.{kind_number, area_of}}
use Rattle.rules.specs.{Options.passes, Directives.{allocates, inserts, is_allocated, bad_area}}

-- ---- at most one row passes: no row that passes has one before it that does

module _ {H : Type 0} (p : H → Bool) (xs : Rows H) where
  pub earlier_once : ((i : ℕ) → i < xs.count → p (xs.row i) ≡ true → any p (before i xs) ≡ false) → Once p xs
  earlier_once h i j l k g e = go (dec_lt i j) (dec_lt j i)
    where
      go : Dec (i < j) → Dec (j < i) → i ≡ j
      go (yes m) _ = not_both (h j k e) (any_below_lem j (λ a. p (xs.row a)) i m g)
      go (no m) (yes n) = not_both (h i l g) (any_below_lem i (λ a. p (xs.row a)) j n e)
      go (no m) (no n) = omega arith

  pub once_earlier : Once p xs → (i : ℕ) → i < xs.count → p (xs.row i) ≡ true → any p (before i xs) ≡ false
  once_earlier once i l g = is_false (any p (before i xs)) (λ e.
      let (j, k, h) = some_below i (λ a. p (xs.row a)) e in
      let q = once i j l (omega arith) g h in absurd (omega arith))

-- ---- the area that a header names

test_area : (area : ℕ) (o : Option ℕ) → passes (eqb area) o ≡ true → o ≡ some area
test_area area none h = absurd (false≢true h)
test_area area (some b) h = ap {B = Option ℕ} some (sym (eqb-true area b h))

pub allocates_names : (area : ℕ) (h : IgvmDirectiveHeader) → allocates area h ≡ true → area_of h ≡ some area
unfolding allocates
allocates_names area h e = test_area area (area_of h) (and_parts (eqb (kind_number h) 33) (passes (eqb area) (area_of h)) e).1

pub inserts_names : (area : ℕ) (h : IgvmDirectiveHeader) → inserts area h ≡ true → area_of h ≡ some area
unfolding inserts
inserts_names area h e = test_area area (area_of h) (and_parts (eqb (kind_number h) 50) (passes (eqb area) (area_of h)) e).1

-- a header that names an area allocates it where it is of kind 33
pub allocates_kind : (area : ℕ) (h : IgvmDirectiveHeader) → area_of h ≡ some area → allocates area h ≡ eqb (kind_number h) 33
unfolding allocates
allocates_kind area h e = rw (e, eq-eqb area area refl) (and-true (eqb (kind_number h) 33))

-- ---- 32

-- the area of a header, where it names one, is as it must be
pub bad_area_lem : (earlier : Rows IgvmDirectiveHeader) (h : IgvmDirectiveHeader) → (bad_area earlier h ≡ false)
    ↔ ((area : ℕ) → area_of h ≡ some area
    → (allocates area h ≡ true → any (allocates area) earlier ≡ false) × (allocates area h ≡ false → is_allocated earlier area ≡ true))
unfolding bad_area
bad_area_lem earlier h = go (area_of h) refl
  where
    test : ℕ → Bool
    test area = cond (eqb (kind_number h) 33) (any (allocates area) earlier) (not (is_allocated earlier area))

    one : (area : ℕ) (b c : Bool) → (cond b (any (allocates area) earlier) (not c) ≡ false)
        ↔ ((b ≡ true → any (allocates area) earlier ≡ false) × (b ≡ false → c ≡ true))
    one area true c = (λ e. (λ _. e, λ f. absurd (false≢true (sym f))), λ e. e.0 refl)
    one area false c = (λ e. (λ f. absurd (false≢true f), λ _. not-false c e), λ e. rw (e.1 refl))

    go : (o : Option ℕ) → area_of h ≡ o → (passes test o ≡ false)
        ↔ ((area : ℕ) → o ≡ some area
        → (allocates area h ≡ true → any (allocates area) earlier ≡ false) × (allocates area h ≡ false → is_allocated earlier area ≡ true))
    go none e = (λ _ area f. absurd (false≢true (cc)), λ _. refl)
    go (some area) e = (
      λ f b g. let s : area ≡ b = cc in rw (← s, allocates_kind area h e) ((one area (eqb (kind_number h) 33) (is_allocated earlier area)).0 f),
      λ f. (one area (eqb (kind_number h) 33) (is_allocated earlier area)).1 (rw (allocates_kind area h e) at (f area refl)),
    )
