-- What the kept directive rows tell of areas: the rule (32) by what is known of a row's area, and what is known after one row more.
use Rattle.rows.{proofs.Kit.{◌≡◌, refl, sym, ap, ◌∙◌, Bool, true, false, not, cond, ◌&&◌, ◌||◌, and-false, or-false, false≢true, inl, inr, List, ℕ, zero, suc, eqb, eq-eqb, eqb-true, eqb-false}, specs.Below.any_below, specs.Rows.{Rows, any, more}, proofs.Bools.{which, is_false, not_both, or_left, or_cases, and_parts}, proofs.SameLaws.any_added}
use Rattle.igvm_defs.{specs.declared.Arch.Arch, specs.Refusals.is_fault}
use Rattle.initialization_header.specs.declared.IgvmInitializationHeader.{IgvmInitializationHeader}
use Rattle.directive_header.specs.{declared.IgvmDirectiveHeader.IgvmDirectiveHeader, Fields.area_of}
use Rattle.rules.{specs.Directives.{allocates, inserts, bad_area, directive_fault}, specs.Kept.{kept_below, fault_of}, proofs.Acceptance.directive_says, proofs.KeptLaws.{kept_skipped, kept_taken}}
use denote.Enum.Bare.{sameb}
use Rattle.area_table.specs.{contracts.AreaState.the_type, declared.AreaState.AreaState, declared.AreaState.TheVariants.{Nothing, Allocated, Inserted}, States.state_code}
use Rattle.area_table.{specs.AreaTable.{HoldsAreas, state_in}}
use Rattle.directive_check.{specs.declared.AreaName.AreaName, specs.declared.AreaName.TheVariants.{Allocates, Uses, Inserts, NoArea}, specs.Record.{how_of, area_number, how, area_in, Names}, proofs.DirectiveRecordLaws.{allocates_says, inserts_says, bad_area_says}}
use Rattle.directive_row.specs.Row.{area_state, state_of}
use Rattle.directive_report.specs.Reported.{bad_in, state_next, said, after_row}

-- the area that a header names; 0 where it names none
abbrev pub area_at : IgvmDirectiveHeader → ℕ
area_at h = area_number (area_of h)

-- ---- an area that was inserted is allocated

abbrev pub Sound : Rows IgvmDirectiveHeader → Type 0
Sound ks = (x : ℕ) → any (inserts x) ks ≡ true → any (allocates x) ks ≡ true

-- a header that inserts an area, and is not bad, finds it allocated
insert_finds : (ks : Rows IgvmDirectiveHeader) (h : IgvmDirectiveHeader) (x : ℕ) → bad_area ks h ≡ false → inserts x h ≡ true → any (allocates x) ks ≡ true
insert_finds ks h x good e =
    let (how, same) = and_parts (eqb (how_of h) 2) (eqb x (area_at h)) (sym (inserts_says x h) ∙ e) in
    let two = eqb-true (how_of h) 2 how in
    let z = eqb-true x (area_at h) same in
    rw z (and_parts (any (allocates (area_at h)) ks) (not (any (inserts (area_at h)) ks)) (not_fails _ (rw (two) at (sym (bad_area_says ks h) ∙ good)))).0
  where
    not_fails : (b : Bool) → not b ≡ false → b ≡ true
    not_fails true e = refl
    not_fails false e = absurd (false≢true (sym e))

pub sound_more : (ks : Rows IgvmDirectiveHeader) (h : IgvmDirectiveHeader) → Sound ks → bad_area ks h ≡ false → Sound (more ks h)
sound_more ks h S good x e =
    rw (any_added ks h (allocates x))
    (or_left (any (allocates x) ks) (allocates x h) (elim (or_cases (any (inserts x) ks) (inserts x h) (rw (any_added ks h (inserts x)) at e)) [ inl a ↦ S x a | inr b ↦ insert_finds ks h x good b ]))

module _ (arch : Arch) (is : Rows IgvmInitializationHeader) (xs : Rows IgvmDirectiveHeader) where
  -- among kept rows it is
  pub kept_inserted : (n : ℕ) → Sound (kept_below (directive_fault arch is) xs n)
  unfolding kept_below any_below
  kept_inserted zero = λ x e. absurd (false≢true e)
  kept_inserted (suc n) = go (kept_inserted n) (is_fault (fault_of (directive_fault arch is) xs n)) refl
    where
      go : Sound (kept_below (directive_fault arch is) xs n) → (b : Bool) → is_fault (fault_of (directive_fault arch is) xs n) ≡ b → Sound (kept_below (directive_fault arch is) xs (suc n))
      go S true e = rw (kept_skipped (directive_fault arch is) xs n e) S
      go S false e =
          rw (kept_taken (directive_fault arch is) xs n e)
          (sound_more (kept_below (directive_fault arch is) xs n) (xs.row n) S ((directive_says arch is (kept_below (directive_fault arch is) xs n) (xs.row n)).0 e).1)

-- ---- the rule by what is known of the area

-- allocated, by the state; where an inserted area is allocated
state_allocated : (a i : Bool) → (i ≡ true → a ≡ true) → not (eqb (area_state a i) 0) ≡ a
state_allocated true true h = refl
state_allocated true false h = refl
state_allocated false true h = sym (h refl)
state_allocated false false h = refl

state_free : (a i : Bool) → not (eqb (area_state a i) 1) ≡ not (a && not i)
state_free true true = refl
state_free true false = refl
state_free false true = refl
state_free false false = refl

pub bad_state : (ks : Rows IgvmDirectiveHeader) (h : IgvmDirectiveHeader) → Sound ks → bad_in (how_of h) (state_of ks (area_at h)) ≡ bad_area ks h
unfolding bad_in state_of
bad_state ks h S =
    rw (state_allocated (any (allocates (area_at h)) ks) (any (inserts (area_at h)) ks) (S (area_at h)), state_free (any (allocates (area_at h)) ks) (any (inserts (area_at h)) ks))
    (sym (bad_area_says ks h))

-- ---- what is known after one row more

or_true : (b : Bool) → (b || true) ≡ true
or_true true = refl
or_true false = refl

-- the row's own area changes as its way of naming it says, no other does
pub state_more : (ks : Rows IgvmDirectiveHeader) (h : IgvmDirectiveHeader) (x : ℕ) → Sound ks → bad_area ks h ≡ false
    → state_of (more ks h) x ≡ cond (eqb x (area_at h)) (state_next (how_of h) (state_of ks x)) (state_of ks x)
unfolding state_of state_next
state_more ks h x S good =
    rw (any_added ks h (allocates x), any_added ks h (inserts x), allocates_says x h, inserts_says x h) (go (eqb x (area_at h)) refl (eqb (how_of h) 0) refl (eqb (how_of h) 2) refl)
  where
    a : Bool
    a = any (allocates x) ks

    i : Bool
    i = any (inserts x) ks

    -- nothing is known of an area that the row may allocate
    fresh : eqb (how_of h) 0 ≡ true → x ≡ area_at h → (a ≡ false) × (i ≡ false)
    fresh z e =
        let none : any (allocates (area_at h)) ks ≡ false = rw (eqb-true (how_of h) 0 z) at (sym (bad_area_says ks h) ∙ good) in
        let b : a ≡ false = rw e none in
        (b, is_false i (λ t. not_both b (S x t)))

    go : (t : Bool) → eqb x (area_at h) ≡ t → (z : Bool) → eqb (how_of h) 0 ≡ z → (w : Bool) → eqb (how_of h) 2 ≡ w
        → area_state (a || (z && t)) (i || (w && t)) ≡ cond t (cond z 1 (cond w 2 (area_state a i))) (area_state a i)
    go true e true f w g =
        let (b, d) = fresh f (eqb-true x (area_at h) e) in
        let two : w ≡ false = sym g ∙ ap (λ n. eqb n 2) (eqb-true (how_of h) 0 f) in
        rw (b, d, two)
    go true e false f true g = rw (or_true i)
    go true e false f false g = rw (or-false a, or-false i)
    go false e z f w g = rw (and-false z, and-false w, or-false a, or-false i)

-- ---- a row by the name that it gives its area

either_way : (b : Bool) (n : ℕ) → cond b n n ≡ n
either_way true n = refl
either_way false n = refl

pub named_bad : (ks : Rows IgvmDirectiveHeader) (h : IgvmDirectiveHeader) (name : AreaName) → Names name h → Sound ks
    → bad_in (how name) (said (state_of ks) (area_in name)) ≡ bad_area ks h
unfolding bad_in
named_bad ks h name (w, a) S = go name (sym w) (sym a)
  where
    go : (n : AreaName) → how_of h ≡ how n → area_of h ≡ area_in n → bad_in (how n) (said (state_of ks) (area_in n)) ≡ bad_area ks h
    go (Allocates b) w a = rw (w, a) at (bad_state ks h S)
    go (Uses b) w a = rw (w, a) at (bad_state ks h S)
    go (Inserts b) w a = rw (w, a) at (bad_state ks h S)
    go NoArea w a = rw w at (bad_state ks h S)

pub named_more : (ks : Rows IgvmDirectiveHeader) (h : IgvmDirectiveHeader) (name : AreaName) (x : ℕ) → Names name h → Sound ks → bad_area ks h ≡ false
    → after_row name (state_of ks) x ≡ state_of (more ks h) x
unfolding state_next
named_more ks h name x (w, a) S good = sym (state_more ks h x S good ∙ go name (sym w) (sym a))
  where
    go : (n : AreaName) → how_of h ≡ how n → area_of h ≡ area_in n
        → cond (eqb x (area_at h)) (state_next (how_of h) (state_of ks x)) (state_of ks x) ≡ after_row n (state_of ks) x
    go (Allocates b) w a = rw (w, a)
    go (Uses b) w a = rw (w, a)
    go (Inserts b) w a = rw (w, a)
    go NoArea w a = rw (w, a) (either_way (eqb x 0) (state_of ks x))

-- ---- states

-- states differ where their numbers do
pub not_nothing : (s : AreaState) → not (sameb the_type s Nothing) ≡ not (eqb (state_code s) 0)
not_nothing Nothing = refl
not_nothing Allocated = refl
not_nothing Inserted = refl

pub not_allocated : (s : AreaState) → not (sameb the_type s Allocated) ≡ not (eqb (state_code s) 1)
not_allocated Nothing = refl
not_allocated Allocated = refl
not_allocated Inserted = refl

-- ---- the table

-- a row that allocates or inserts no area changes none
pub unchanged : (name : AreaName) (f : ℕ → ℕ) → (eqb (how name) 1 || eqb (how name) 3) ≡ true → (x : ℕ) → f x ≡ after_row name f x
unfolding state_next
unchanged (Allocates b) f e x = absurd (false≢true e)
unchanged (Uses b) f e x = sym (either_way (eqb x b) (f x))
unchanged (Inserts b) f e x = absurd (false≢true e)
unchanged NoArea f e x = refl

module _ (few links areas states : List ℕ) (f : ℕ → ℕ) (area from to : ℕ) where
  -- where the table can't tell of the area, it holds whatever becomes known of it
  untold : HoldsAreas few links areas states f → state_in few links areas states area ≡ 3 → HoldsAreas few links areas states (λ x. cond (eqb x area) to (f x))
  untold H e =
      record {
        few_size = H.few_size;
        tree = H.tree;
        told = λ x t. elim (which (eqb x area)) [
          | inl q ↦ absurd (t (rw (eqb-true x area q) e))
          | inr q ↦ H.told x t ∙ rw q
        ];
      }

  -- a change from what is known, whether or not the table can tell
  pub changed : (r : Bool) (few2 links2 areas2 states2 : List ℕ) → f area ≡ from → r ≡ eqb (state_in few links areas states area) from
      → ((g : ℕ → ℕ) → HoldsAreas few links areas states g → HoldsAreas few2 links2 areas2 states2 (λ x. cond (r && eqb x area) to (g x)))
      → HoldsAreas few links areas states f → HoldsAreas few2 links2 areas2 states2 (λ x. cond (eqb x area) to (f x))
  changed true few2 links2 areas2 states2 known e step H = step f H
  changed false few2 links2 areas2 states2 known e step H =
      step (λ x. cond (eqb x area) to (f x)) (untold H (unknown (eqb (state_in few links areas states area) 3) refl))
    where
      unknown : (b : Bool) → eqb (state_in few links areas states area) 3 ≡ b → state_in few links areas states area ≡ 3
      unknown true q = eqb-true (state_in few links areas states area) 3 q
      unknown false q =
          absurd (false≢true (e ∙ eq-eqb (state_in few links areas states area) from (H.told area (eqb-false (state_in few links areas states area) 3 q) ∙ known)))
