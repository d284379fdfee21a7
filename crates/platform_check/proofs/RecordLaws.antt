-- The record of platform rows answers for the rows that it holds.
use Rattle.rows.{proofs.Kit.{◌≡◌, refl, sym, ap, ◌∙◌, Bool, true, false, List, ◌⊎◌, inl, inr, Option, none, some, ℕ, suc, ◌+◌, ◌≤◌, ◌<◌, add-one, arith, eqb, eqb-true, length, get_or, set, get_or-set_same, get_or-set_other}, specs.Below.{any_below, last_below}, specs.Rows.{Rows, any, row_at, before, more}, proofs.Bools.which, proofs.BelowLaws.{top, any_same_tests, last_same_tests, last_says}, proofs.SameLaws.{more_last, more_row}}
use Rattle.platform_header.specs.declared.IgvmPlatformHeader.{IgvmPlatformHeader}
use Rattle.rules.{specs.Options.passes, specs.Platforms.{same_type, is_cca, last_is_cca}}
use Rattle.platform_check.specs.{declared.Platforms.Platforms, Record.{HoldsPlatforms, last_type_is_cca}}

-- the record never holds more than 16 rows
pub holds_count : (r : Platforms) (xs : Rows IgvmPlatformHeader) → HoldsPlatforms r xs → r.count ≤ 16
holds_count r xs h = let e = h.count in let l = h.room in omega arith

-- it looks at no row but those that it holds
pub holds_same : (r : Platforms) (xs ys : Rows IgvmPlatformHeader) → xs.count ≡ ys.count → ((i : ℕ) → i < xs.count → xs.row i ≡ ys.row i)
    → HoldsPlatforms r xs → HoldsPlatforms r ys
holds_same r xs ys e same h =
    record {
      count = h.count ∙ e;
      room = rw e at h.room;
      mask = λ i l. h.mask i (rw (← e) at l) ∙ ap (λ (p : IgvmPlatformHeader). p.compatibility_mask) (same i (rw (← e) at l));
      type = λ i l. h.type i (rw (← e) at l) ∙ ap (λ (p : IgvmPlatformHeader). p.platform_type) (same i (rw (← e) at l));
    }

-- for 14
pub holds_type : (r : Platforms) (xs : Rows IgvmPlatformHeader) (h : IgvmPlatformHeader) → HoldsPlatforms r xs
    → any_below r.count (λ i. eqb h.platform_type (get_or r.types i 0)) ≡ any (same_type h) xs
unfolding same_type
holds_type r xs h held = rw held.count (any_same_tests xs.count _ _ (λ i l. rw (held.type i l)))

-- for 25
pub holds_cca : (r : Platforms) (xs : Rows IgvmPlatformHeader) (mask : ℕ) → HoldsPlatforms r xs → last_type_is_cca r mask ≡ last_is_cca xs mask
unfolding last_type_is_cca last_is_cca
holds_cca r xs mask held = rw same (go (last_below xs.count p) refl)
  where
    p : ℕ → Bool
    p i = eqb (xs.row i).compatibility_mask mask

    same : last_below r.count (λ i. eqb (get_or r.mask i 0) mask) ≡ last_below xs.count p
    same = rw held.count (last_same_tests xs.count (λ i. eqb (get_or r.mask i 0) mask) p (λ i l. rw (held.mask i l)))

    go : (o : Option ℕ) → last_below xs.count p ≡ o → passes (λ i. eqb (get_or r.types i 0) 6) o ≡ passes is_cca (row_at xs o)
    go none e = refl
    go (some i) e = rw (held.type i (last_says xs.count p i e).0)

-- a number stored behind those of the rows
stored : (l : List ℕ) (n v : ℕ) (f : ℕ → ℕ) → n < length l → f n ≡ v → ((j : ℕ) → j < n → get_or l j 0 ≡ f j)
    → (j : ℕ) → j < suc n → get_or (set l n v) j 0 ≡ f j
stored l n v f room e same j h = go (top h)
  where
    go : (j ≡ n) ⊎ (j < n) → get_or (set l n v) j 0 ≡ f j
    go (inl q) = rw (q, get_or-set_same l n v 0 room) (sym e)
    go (inr k) = rw (get_or-set_other l n j v 0 (λ q. omega arith)) (same j k)

-- one row more
pub holds_more : (r : Platforms) (xs : Rows IgvmPlatformHeader) (h : IgvmPlatformHeader) → r.count < 16 → length r.mask ≡ 16 → length r.types ≡ 16 → HoldsPlatforms r xs
    → HoldsPlatforms (record { mask = set r.mask r.count h.compatibility_mask; types = set r.types r.count h.platform_type; count = r.count + 1 }) (more xs h)
holds_more r xs h room lm lt held =
    let e : r.count ≡ xs.count = held.count in
    record {
      count = omega arith;
      room = omega arith;
      mask = rw e (stored r.mask xs.count h.compatibility_mask (λ j. ((more xs h).row j).compatibility_mask) (omega arith) (rw (more_last xs h)) (λ j l. rw (more_row xs h j l) (held.mask j l)));
      type = rw e (stored r.types xs.count h.platform_type (λ j. ((more xs h).row j).platform_type) (omega arith) (rw (more_last xs h)) (λ j l. rw (more_row xs h j l) (held.type j l)));
    }

-- the rows before row i and row i are the rows before row i + 1
pub before_next : (xs : Rows IgvmPlatformHeader) (i : ℕ) (h : IgvmPlatformHeader) → h ≡ xs.row i → (j : ℕ) → (more (before i xs) h).row j ≡ xs.row j
before_next xs i h e j = go (which (eqb j i))
  where
    go : (eqb j i ≡ true) ⊎ (eqb j i ≡ false) → (more (before i xs) h).row j ≡ xs.row j
    go (inl t) = rw (t, e, eqb-true j i t)
    go (inr f) = rw f

-- so a record that holds row i behind the rows before it holds the rows before row i + 1
pub holds_next : (r : Platforms) (xs : Rows IgvmPlatformHeader) (i : ℕ) (h : IgvmPlatformHeader) → h ≡ xs.row i → HoldsPlatforms r (more (before i xs) h) → HoldsPlatforms r (before (i + 1) xs)
holds_next r xs i h e held = holds_same r (more (before i xs) h) (before (i + 1) xs) (sym (add-one i)) (λ j _. before_next xs i h e j) held
