-- Laws of faults and refusals: whether there is one, as an equation, and which one it is.
use lib.Dec.{eqb-suc-zero}
use Rattle.rows.{proofs.Kit.{◌≡◌, refl, sym, ap, ◌∙◌, Bool, true, false, not, cond, ◌||◌, ◌≢◌, ◌↔◌, Option, none, some, ℕ, suc, ◌+◌, ◌-◌, ◌<◌, arith, dec_lt, eqb, eqb-true, ne_eqb, not-false}, specs.Below.{any_below, first_below}, proofs.BelowLaws.{any_below_lem, none_any, first_any, first_none, first_at, first_says, first_same_tests}}
use Rattle.igvm_defs.specs.{declared.Refusal.Refusal, declared.Fault.Fault, Refusals.{refusal, no_refusal, fault, no_fault, refuse, is_fault, is_refusal, in_row, or_else, refusal_at, first_fault}}

-- ---- whether there is a fault, a refusal
pub no_fault_lem : is_fault no_fault ≡ false
unfolding is_fault
no_fault_lem = refl

pub refuse_fault : (b : Bool) (n d : ℕ) (later : Fault) → is_fault (refuse b (fault (suc n) d) later) ≡ (b || is_fault later)
unfolding is_fault
refuse_fault true n d later = ap not (eqb-suc-zero n)
refuse_fault false n d later = refl

pub row_refusal_lem : (row : ℕ) (f : Fault) → is_refusal (in_row row f) ≡ is_fault f
unfolding is_fault is_refusal in_row
row_refusal_lem row f = go (is_fault f) refl
  where
    go : (b : Bool) → is_fault f ≡ b → is_refusal (cond b (refusal f.number row f.detail) no_refusal) ≡ b
    go true e = e
    go false e = refl

pub else_refusal : (r later : Refusal) → is_refusal (or_else r later) ≡ (is_refusal r || is_refusal later)
unfolding is_refusal or_else
else_refusal r later = go (is_refusal r) refl
  where
    go : (b : Bool) → is_refusal r ≡ b → is_refusal (cond b r later) ≡ (b || is_refusal later)
    go true e = e
    go false e = refl

-- ---- which refusal
pub no_fault_row : (row : ℕ) (f : Fault) → is_fault f ≡ false → in_row row f ≡ no_refusal
unfolding in_row
no_fault_row row f e = rw e

pub or_else_first : (r later : Refusal) → is_refusal r ≡ true → or_else r later ≡ r
unfolding or_else
or_else_first r later e = rw e

pub or_else_later : (r later : Refusal) → is_refusal r ≡ false → or_else r later ≡ later
unfolding or_else
or_else_later r later e = rw e

-- ---- n rows, of which row i has the fault f i
module _ (first n : ℕ) (f : ℕ → Fault) where
  pub fault_stop : (i : ℕ) → i < n → any_below i (λ j. is_fault (f j)) ≡ false → is_fault (f i) ≡ true → first_fault first n f ≡ in_row (first + i + 1) (f i)
  unfolding first_fault in_row
  fault_stop i l e t = rw (first_at n (λ j. is_fault (f j)) i l ((none_any i (λ j. is_fault (f j))).0 e) t, t)

  pub fault_end : any_below n (λ j. is_fault (f j)) ≡ false → first_fault first n f ≡ no_refusal
  unfolding first_fault
  fault_end e = rw ((first_any n (λ j. is_fault (f j))).1 e)

  pub faults_any : is_refusal (first_fault first n f) ≡ any_below n (λ j. is_fault (f j))
  unfolding first_fault is_refusal is_fault
  faults_any = go (first_below n (λ j. is_fault (f j))) refl
    where
      go : (o : Option ℕ) → first_below n (λ j. is_fault (f j)) ≡ o → is_refusal (refusal_at first f o) ≡ any_below n (λ j. is_fault (f j))
      go none e = rw ((first_any n (λ j. is_fault (f j))).0 e)
      go (some i) e = let (l, t, _) = first_says n (λ j. is_fault (f j)) i e in rw (any_below_lem n (λ j. is_fault (f j)) i l t) t

-- rows with the same faults
pub faults_same : (first n : ℕ) (f g : ℕ → Fault) → ((i : ℕ) → i < n → f i ≡ g i) → first_fault first n f ≡ first_fault first n g
unfolding first_fault
faults_same first n f g h =
    go (first_below n (λ i. is_fault (f i))) refl
    ∙ ap (refusal_at first g) (first_same_tests n (λ i. is_fault (f i)) (λ i. is_fault (g i)) (λ i l. ap is_fault (h i l)))
  where
    go : (o : Option ℕ) → first_below n (λ i. is_fault (f i)) ≡ o → refusal_at first f o ≡ refusal_at first g o
    go none e = refl
    go (some i) e = rw (h i (first_says n (λ i. is_fault (f i)) i e).0)

-- rows in two parts
pub faults_split : (first m n : ℕ) (f : ℕ → Fault) → first_fault first (m + n) f ≡ or_else (first_fault first m f) (first_fault (first + m) n (λ i. f (m + i)))
unfolding first_fault or_else is_refusal is_fault
faults_split first m n f = go (first_below m p) refl
  where
    p : ℕ → Bool
    p i = is_fault (f i)

    go : (o : Option ℕ) → first_below m p ≡ o
        → refusal_at first f (first_below (m + n) p) ≡ or_else (refusal_at first f o) (refusal_at (first + m) (λ i. f (m + i)) (first_below n (λ i. p (m + i))))
    go (some i) e = let (l, t, b) = first_says m p i e in rw (first_at (m + n) p i (omega arith) b t, t)
    go none e = rest (first_below n (λ i. p (m + i))) refl
      where
        both : (k : ℕ) → ((i : ℕ) → m + i < k → p (m + i) ≡ false) → (j : ℕ) → j < k → p j ≡ false
        both k h j l = at (dec_lt j m)
          where
            at : Dec (j < m) → p j ≡ false
            at (yes z) = (first_none m p).0 e j z
            at (no z) = let g : j ≡ m + (j - m) = omega arith in rw g (h (j - m) (omega arith))

        rest : (o : Option ℕ) → first_below n (λ i. p (m + i)) ≡ o → refusal_at first f (first_below (m + n) p) ≡ refusal_at (first + m) (λ i. f (m + i)) o
        rest none d = rw ((first_none (m + n) p).1 (both (m + n) (λ i l. (first_none n (λ i. p (m + i))).0 d i (omega arith))))
        rest (some i) d =
            let (l, t, b) = first_says n (λ i. p (m + i)) i d in
            let z : first + (m + i) + 1 ≡ first + m + i + 1 = omega arith in
            rw (first_at (m + n) p (m + i) (omega arith) (both (m + i) (λ j g. b j (omega arith))) t, z)

-- ---- a fault by its number

pub fault_zero : (f : Fault) → (is_fault f ≡ false) ↔ (f.number ≡ 0)
unfolding is_fault
fault_zero f = (λ e. eqb-true f.number 0 (not-false (eqb f.number 0) e), λ e. rw e)

pub fault_number : (f : Fault) → f.number ≢ 0 → is_fault f ≡ true
unfolding is_fault
fault_number f h = rw (ne_eqb f.number 0 h)

pub fault_row : (row : ℕ) (f : Fault) → is_fault f ≡ true → in_row row f ≡ refusal f.number row f.detail
unfolding in_row
fault_row row f t = rw t

-- ---- one refusal after another

pub none_else : (r : Refusal) → or_else no_refusal r ≡ r
unfolding or_else is_refusal
none_else r = refl

pub else_assoc : (a b c : Refusal) → or_else (or_else a b) c ≡ or_else a (or_else b c)
unfolding or_else
else_assoc a b c = go (is_refusal a) refl
  where
    go : (t : Bool) → is_refusal a ≡ t → or_else (cond t a b) c ≡ cond t a (or_else b c)
    go true e = rw e
    go false e = refl

-- what comes later counts only where nothing was refused
pub else_same : (a b c : Refusal) → (is_refusal a ≡ false → b ≡ c) → or_else a b ≡ or_else a c
unfolding or_else
else_same a b c h = go (is_refusal a) refl
  where
    go : (t : Bool) → is_refusal a ≡ t → cond t a b ≡ cond t a c
    go true e = refl
    go false e = h e

-- two that exclude each other may change places
pub else_swap : (a b c : Refusal) → (is_refusal a ≡ true → is_refusal b ≡ false) → or_else a (or_else b c) ≡ or_else b (or_else a c)
else_swap a b c h = go (is_refusal a) refl
  where
    go : (t : Bool) → is_refusal a ≡ t → or_else a (or_else b c) ≡ or_else b (or_else a c)
    go true e = or_else_first a (or_else b c) e ∙ sym (or_else_later b (or_else a c) (h e) ∙ or_else_first a c e)
    go false e = or_else_later a (or_else b c) e ∙ ap (or_else b) (sym (or_else_later a c e))
