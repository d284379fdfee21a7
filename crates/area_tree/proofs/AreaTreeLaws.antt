-- Laws of the tree of areas: where a walk ends, what a new node and a new state change, and the empty tree.
use lib.ListN.{length-replicate}
use Rattle.rows.{proofs.Kit.{ℕ, zero, suc, ◌+◌, ◌*◌, ◌-◌, ◌/◌, ◌%◌, ◌≤◌, ◌<◌, dec_lt, ℕ_discrete, arith, true, false, cond, List, [], ◌∷◌, ◌≢◌, inl, inr, ◌≡◌, refl, sym, ap, ◌∙◌, eqb, length, get_or, set, replicate, length-set, get_or-set_same, get_or-set_other, lt-ltb, le-ltb, eq-eqb, ne_eqb, eqb-true}, proofs.Bools.{which, not_both, or_left, or_right, or_cases, or_both_false}, proofs.BelowLaws.zeros}
use Rattle.area_tree.specs.AreaTree.{root, node_at, area_of, state_of, ends, child, find_from, place_of, state_at, state_in, half, way, way_to, Place, Made, HoldsAreas}

root_small : (x : ℕ) → root x < 1024
unfolding root
root_small x = omega arith

-- ---- the node at a place

module _ (xs : List ℕ) (p : ℕ) where
  pub node_here : get_or xs p 0 ≤ 1024 → node_at xs p ≡ get_or xs p 0
  unfolding node_at
  node_here l = rw (le-ltb 1024 (get_or xs p 0) l)

  pub node_none : 1024 < get_or xs p 0 → node_at xs p ≡ 0
  unfolding node_at
  node_none l = rw (lt-ltb 1024 (get_or xs p 0) l)

  pub node_small : node_at xs p ≤ 1024
  node_small = elim (dec_lt 1024 (get_or xs p 0)) [ yes l ↦ omega (arith, node_none l) | no l ↦ omega (arith, node_here (omega arith)) ]

  -- what is known by the place
  pub state_empty : node_at xs p ≡ 0 → state_at xs p ≡ 0
  unfolding state_at
  state_empty e = rw (eq-eqb (node_at xs p) 0 e)

  pub state_node : node_at xs p ≢ 0 → state_at xs p ≡ state_of xs (node_at xs p)
  unfolding state_at
  state_node n = rw (ne_eqb (node_at xs p) 0 n)

-- a place that has the same number in two arrays has the same node
node_same : (xs ys : List ℕ) (p : ℕ) → get_or ys p 0 ≡ get_or xs p 0 → node_at ys p ≡ node_at xs p
unfolding node_at
node_same xs ys p e = rw e

-- ---- where a walk ends

module _ (xs : List ℕ) (x p : ℕ) where
  ends_empty : node_at xs p ≡ 0 → ends xs x p ≡ true
  unfolding ends
  ends_empty e = or_left (eqb (node_at xs p) 0) (eqb (area_of xs (node_at xs p)) x) (eq-eqb _ _ e)

  ends_own : area_of xs (node_at xs p) ≡ x → ends xs x p ≡ true
  unfolding ends
  ends_own e = or_right (eqb (node_at xs p) 0) (eqb (area_of xs (node_at xs p)) x) (eq-eqb _ _ e)

  ends_not : node_at xs p ≢ 0 → area_of xs (node_at xs p) ≢ x → ends xs x p ≡ false
  unfolding ends
  ends_not n m = or_both_false (eqb (node_at xs p) 0) (eqb (area_of xs (node_at xs p)) x) (ne_eqb _ _ n) (ne_eqb _ _ m)

  -- at a node, it is the area's
  ends_says : ends xs x p ≡ true → node_at xs p ≢ 0 → area_of xs (node_at xs p) ≡ x
  unfolding ends
  ends_says h n =
      elim (or_cases (eqb (node_at xs p) 0) (eqb (area_of xs (node_at xs p)) x) h) [ inl e ↦ absurd (n (eqb-true _ _ e)) | inr e ↦ eqb-true _ _ e ]

  -- where a walk goes on, there is a node of another area
  on_node : ends xs x p ≡ false → node_at xs p ≢ 0
  on_node e z = not_both e (ends_empty z)

  on_other : ends xs x p ≡ false → area_of xs (node_at xs p) ≢ x
  on_other e z = not_both e (ends_own z)

module _ (xs : List ℕ) (x : ℕ) where
  pub find_end : (n rest p : ℕ) → 0 < n → ends xs x p ≡ true → find_from xs x n rest p ≡ p
  unfolding find_from
  find_end zero rest p z e = absurd (omega arith)
  find_end (suc n) rest p z e = rw e

  find_step : (n rest p : ℕ) → ends xs x p ≡ false → find_from xs x (suc n) rest p ≡ find_from xs x n (rest / 2) (child xs rest p)
  unfolding find_from
  find_step n rest p e = rw e

  -- the look after n others
  pub find_look : (n rest p : ℕ) → n < 33 → ends xs x p ≡ false → find_from xs x (33 - n) rest p ≡ find_from xs x (33 - (n + 1)) (rest / 2) (child xs rest p)
  find_look n rest p l e = let q : 33 - n ≡ suc (33 - (n + 1)) = omega arith in rw q (find_step (33 - (n + 1)) rest p e)

  pub find_zero : (rest p : ℕ) → find_from xs x 0 rest p ≡ 1024
  unfolding find_from
  find_zero rest p = refl

  -- from an empty place no walk goes on, and it tells nothing
  find_empty : node_at xs 1024 ≡ 0 → (n rest p : ℕ) → node_at xs p ≡ 0 → state_at xs (find_from xs x n rest p) ≡ 0
  find_empty z zero rest p e = rw (find_zero rest p) (state_empty xs 1024 z)
  find_empty z (suc n) rest p e = rw (find_end (suc n) rest p (omega arith) (ends_empty xs x p e)) (state_empty xs p e)

-- ---- ways

-- the bits that are left after 32 are none
half_some : (x : ℕ) → x < 4294967296 → half 16 x < 65536
unfolding half
half_some x l = omega arith

half_last : (x : ℕ) → x < 65536 → half 16 x ≡ 0
unfolding half
half_last x l = omega arith

half_none : (x : ℕ) → x < 4294967296 → half 32 x ≡ 0
unfolding half
half_none x l = half_last (half 16 x) (half_some x l)

way_length : (j x : ℕ) → length (way j x) ≡ suc j
unfolding way
way_length zero x = refl
way_length (suc j) x = ap suc (way_length j x)

-- areas with the same low bits and the same others are the same
way_same : (j x y : ℕ) → way j x ≡ way j y → half j x ≡ half j y → x ≡ y
unfolding way half
way_same zero x y e h = h
way_same (suc j) x y e h =
    let b : half j x % 2 ≡ half j y % 2 = cc in
    let w : way j x ≡ way j y = cc in
    way_same j x y w (omega arith)

-- only an area itself has all its bits
way_own : (i x y : ℕ) → x < 4294967296 → y < 4294967296 → way i y ≡ way 32 x → y ≡ x
way_own i x y l m e =
    let n : i ≡ 32 = omega (arith, way_length i y, way_length 32 x, ap length e) in
    way_same 32 y x (rw n at e) (half_none y m ∙ sym (half_none x l))

module _ (to : ℕ → List ℕ) where
  way_root : (p : ℕ) → p < 1024 → way_to to p ≡ p ∷ []
  unfolding way_to
  way_root p l = rw (lt-ltb p 1024 l)

  way_child : (k b : ℕ) → b ≤ 1 → way_to to (1026 + 4 * k + b) ≡ b ∷ to k
  unfolding way_to
  way_child k b l =
      let node : (1026 + 4 * k + b) / 4 - 256 ≡ k = omega arith in
      let bit : (1026 + 4 * k + b) % 2 ≡ b = omega arith in
      rw (le-ltb (1026 + 4 * k + b) 1024 (omega arith), node, bit)

-- the ways to places by two maps of ways that are the same for the nodes that are made
way_kept : (to' to : ℕ → List ℕ) (c p : ℕ) → Place c p → ((k : ℕ) → k ≤ c → to' k ≡ to k) → way_to to' p ≡ way_to to p
unfolding way_to
way_kept to' to c p h same = let low = h.low in rw (same (p / 4 - 256) (omega arith))

-- ---- the places that walks come by

-- each place has none or one of the first c nodes
abbrev Counted : List ℕ → ℕ → Type 0
Counted xs c = (p : ℕ) → Place c p → node_at xs p ≢ 0 → node_at xs p ≤ c

root_place : (c x : ℕ) → Place c (root x)
root_place c x = let l = root_small x in record { low = omega arith; child = λ m. absurd (omega arith) }

child_of : (c k b : ℕ) → 1 ≤ k → k ≤ c → b ≤ 1 → Place c (1026 + 4 * k + b)
child_of c k b z l m = record { low = omega arith; child = λ _. (omega arith, omega arith) }

module _ (xs : List ℕ) (c : ℕ) (counted : Counted xs c) (x : ℕ) where
  child_on : (rest p : ℕ) → Place c p → ends xs x p ≡ false → Place c (child xs rest p)
  unfolding child
  child_on rest p h e = let n = on_node xs x p e in child_of c (node_at xs p) (rest % 2) (omega arith) (counted p h n) (omega arith)

  -- a walk ends at such a place, or at 1024
  find_place : (n rest p : ℕ) → Place c p → find_from xs x n rest p ≢ 1024
      → Place c (find_from xs x n rest p) × (ends xs x (find_from xs x n rest p) ≡ true)
  find_place zero rest p h m = absurd (m (find_zero xs x rest p))
  find_place (suc n) rest p h m =
      elim (which (ends xs x p)) [
        | inl e ↦ rw (find_end xs x (suc n) rest p (omega arith) e) (h, e)
        | inr e ↦ let q = find_step xs x n rest p e in rw q (find_place n (rest / 2) (child xs rest p) (child_on rest p h e) (rw q at m))
      ]

  place_place : place_of xs x ≢ 1024 → Place c (place_of xs x) × (ends xs x (place_of xs x) ≡ true)
  unfolding place_of
  place_place m = find_place 33 x (root x) (root_place c x) m

-- 1024 is no such place
place_other : (c p : ℕ) → Place c p → p ≢ 1024
place_other c p h e = omega (arith, h.child (omega arith))

-- ---- an area with no node has an empty place for it

module _ {xs : List ℕ} {c : ℕ} {f : ℕ → ℕ} (h : HoldsAreas xs c f) where
  counted : Counted xs c
  counted p l n = (h.linked p l n).0

  -- a walk for x stands at place p after j bits
  record Stands (x j p : ℕ) : Type 0 where
    place : Place c p
    here : way_to h.to p ≡ way j x

  stands_root : (x : ℕ) → Stands x 0 (root x)
  unfolding way
  stands_root x = record { place = root_place c x; here = way_root h.to (root x) (root_small x) }

  stands_on : (x j p : ℕ) → Stands x j p → ends xs x p ≡ false → Stands x (suc j) (child xs (half j x) p)
  unfolding way child
  stands_on x j p s e =
      let n = on_node xs x p e in
      let q = (h.linked p s.place n).1 in
      record {
        place = child_on xs c counted x (half j x) p s.place e;
        here = way_child h.to (node_at xs p) (half j x % 2) (omega arith) ∙ ap (λ (w : List ℕ). half j x % 2 ∷ w) (q ∙ s.here);
      }

  -- after all bits it ends
  stands_last : (x p : ℕ) → x < 4294967296 → Stands x 32 p → ends xs x p ≡ false → ⊥
  stands_last x p l s e =
      let n = on_node xs x p e in
      let (m, q) = h.linked p s.place n in
      let made : Made c (node_at xs p) = (omega arith, m) in
      let (i, w) = h.bits (node_at xs p) made in
      on_other xs x p e (way_own i x (area_of xs (node_at xs p)) l (h.small (node_at xs p) made) (w ∙ q ∙ s.here))

  -- the place that it ends at
  record Found (x p : ℕ) : Type 0 where
    bits : ℕ
    stands : Stands x bits p
    ended : ends xs x p ≡ true

  find_found : (x : ℕ) → x < 4294967296 → (n j p : ℕ) → n + j ≡ 32 → Stands x j p → Found x (find_from xs x (suc n) (half j x) p)
  unfolding half
  find_found x l zero j p e s =
      let j32 : j ≡ 32 = omega arith in
      elim (which (ends xs x p)) [
        | inl t ↦ rw (find_end xs x 1 (half j x) p (omega arith) t) (record { bits = j; stands = s; ended = t })
        | inr t ↦ absurd (stands_last x p l (rw j32 at s) t)
      ]
  find_found x l (suc n) j p e s =
      elim (which (ends xs x p)) [
        | inl t ↦ rw (find_end xs x (suc (suc n)) (half j x) p (omega arith) t) (record { bits = j; stands = s; ended = t })
        | inr t ↦ rw (find_step xs x (suc n) (half j x) p t) (find_found x l n (suc j) (child xs (half j x) p) (omega arith) (stands_on x j p s t))
      ]

  found : (x : ℕ) → x < 4294967296 → Found x (place_of xs x)
  unfolding place_of half
  found x l = find_found x l 32 0 (root x) (omega arith) (stands_root x)

  -- where nothing is known of the area, the place is empty
  pub found_empty : (x : ℕ) → x < 4294967296 → f x ≡ 0 → node_at xs (place_of xs x) ≡ 0
  unfolding state_in
  found_empty x l z =
      let p = place_of xs x in
      elim (ℕ_discrete (node_at xs p) 0) [
        | yes e ↦ e
        | no n ↦
            let m = counted p (found x l).stands.place n in
            absurd (h.known (node_at xs p) (omega arith, m) (sym (state_node xs p n) ∙ h.told x l ∙ z))
      ]

  -- where something is known of it, its node is there
  found_node : (x : ℕ) → x < 4294967296 → f x ≢ 0 → node_at xs (place_of xs x) ≢ 0
  unfolding state_in
  found_node x l n e = n (sym (h.told x l) ∙ state_empty xs (place_of xs x) e)

-- ---- what is known of every area

pub holds_same : {xs : List ℕ} {c : ℕ} {f g : ℕ → ℕ} → HoldsAreas xs c f → ((x : ℕ) → x < 4294967296 → f x ≡ g x) → HoldsAreas xs c g
holds_same h e =
    record {
      size = h.size;
      room = h.room;
      told = λ x l. h.told x l ∙ e x l;
      empty = h.empty;
      to = h.to;
      linked = h.linked;
      bits = h.bits;
      small = h.small;
      known = h.known;
    }

-- where that of one area changes
told_put : (xs ys : List ℕ) (f : ℕ → ℕ) (a v : ℕ) → ((x : ℕ) → x < 4294967296 → state_in xs x ≡ f x) → state_in ys a ≡ v
    → ((x : ℕ) → x ≢ a → state_in ys x ≡ state_in xs x) → (x : ℕ) → x < 4294967296 → state_in ys x ≡ cond (eqb x a) v (f x)
told_put xs ys f a v told new old x l =
    elim (ℕ_discrete x a) [ yes e ↦ rw (e, eq-eqb a a refl) new | no m ↦ rw (ne_eqb x a m) (old x m ∙ told x l) ]

-- ---- a new node

-- the empty place p got node c + 1, of area a in state 1
record Grown (xs ys : List ℕ) (c p a : ℕ) : Type 0 where
  place : Place c p
  before : node_at xs p ≡ 0
  none_before : node_at xs 1024 ≡ 0
  none : node_at ys 1024 ≡ 0
  link : node_at ys p ≡ c + 1
  area : area_of ys (c + 1) ≡ a
  state : state_of ys (c + 1) ≡ 1
  children : (b : ℕ) → b ≤ 1 → node_at ys (1026 + 4 * (c + 1) + b) ≡ 0
  nodes_other : (q : ℕ) → Place c q → q ≢ p → node_at ys q ≡ node_at xs q
  areas_other : (k : ℕ) → Made c k → area_of ys k ≡ area_of xs k
  states_other : (k : ℕ) → Made c k → state_of ys k ≡ state_of xs k

module _ (xs ys : List ℕ) (c p a : ℕ) (all : Counted xs c) (g : Grown xs ys c p a) where
  ends_other : (x q : ℕ) → Place c q → q ≢ p → ends ys x q ≡ ends xs x q
  unfolding ends
  ends_other x q l n =
      elim (ℕ_discrete (node_at xs q) 0) [
        | yes e ↦ let e' : node_at ys q ≡ 0 = g.nodes_other q l n ∙ e in ends_empty ys x q e' ∙ sym (ends_empty xs x q e)
        | no m ↦ let t = all q l m in rw (g.nodes_other q l n, g.areas_other (node_at xs q) (omega arith, t))
      ]

  child_other : (rest q : ℕ) → Place c q → q ≢ p → child ys rest q ≡ child xs rest q
  unfolding child
  child_other rest q l n = rw (g.nodes_other q l n)

  state_other : (q : ℕ) → Place c q → q ≢ p → state_at ys q ≡ state_at xs q
  state_other q l n =
      let e = g.nodes_other q l n in
      elim (ℕ_discrete (node_at xs q) 0) [
        | yes z ↦ state_empty ys q (e ∙ z) ∙ sym (state_empty xs q z)
        | no m ↦
            let t = all q l m in
            state_node ys q (λ z. m (sym e ∙ z)) ∙ rw e (g.states_other (node_at xs q) (omega arith, t)) ∙ sym (state_node xs q m)
      ]

  child_new : (rest : ℕ) → node_at ys (child ys rest p) ≡ 0
  unfolding child
  child_new rest = rw g.link (g.children (rest % 2) (omega arith))

  -- another area's walk that ended at p goes on to a child of the new node
  find_past : (x : ℕ) → x ≢ a → (n rest : ℕ) → state_at ys (find_from ys x (suc n) rest p) ≡ state_at xs (find_from xs x (suc n) rest p)
  find_past x m n rest =
      let there = g.link in
      let on = ends_not ys x p (λ z. omega arith) (λ z. m (sym z ∙ rw there g.area)) in
      let s : node_at ys (child ys rest p) ≡ 0 = child_new rest in
      rw (find_step ys x n rest p on, find_end xs x (suc n) rest p (omega arith) (ends_empty xs x p g.before))
      (find_empty ys x g.none n (rest / 2) (child ys rest p) s ∙ sym (state_empty xs p g.before))

  -- of another area the same is known as before
  find_other : (x : ℕ) → x ≢ a → (n rest q : ℕ) → Place c q → state_at ys (find_from ys x n rest q) ≡ state_at xs (find_from xs x n rest q)
  find_other x m zero rest q l =
      rw (find_zero ys x rest q, find_zero xs x rest q) (state_empty ys 1024 g.none ∙ sym (state_empty xs 1024 g.none_before))
  find_other x m (suc n) rest q l =
      elim (ℕ_discrete q p) [
        | yes e ↦ rw e (find_past x m n rest)
        | no d ↦ elim (which (ends xs x q)) [
          | inl t ↦ rw (find_end ys x (suc n) rest q (omega arith) (ends_other x q l d ∙ t), find_end xs x (suc n) rest q (omega arith) t) (state_other q l d)
          | inr t ↦
              rw (find_step ys x n rest q (ends_other x q l d ∙ t), find_step xs x n rest q t, child_other rest q l d)
              (find_other x m n (rest / 2) (child xs rest q) (child_on xs c all x rest q l t))
        ]
      ]

  -- the area's walk ends at the new node
  find_new : (n rest q : ℕ) → Place c q → find_from xs a n rest q ≡ p → find_from ys a n rest q ≡ p
  find_new zero rest q l e = find_zero ys a rest q ∙ sym (find_zero xs a rest q) ∙ e
  find_new (suc n) rest q l e =
      elim (ℕ_discrete q p) [
        | yes d ↦ rw d (find_end ys a (suc n) rest p (omega arith) (ends_own ys a p (rw g.link g.area)))
        | no d ↦ elim (which (ends xs a q)) [
          | inl t ↦ absurd (d (sym (find_end xs a (suc n) rest q (omega arith) t) ∙ e))
          | inr t ↦
              rw (find_step ys a n rest q (ends_other a q l d ∙ t), child_other rest q l d)
              (find_new n (rest / 2) (child xs rest q) (child_on xs c all a rest q l t) (sym (find_step xs a n rest q t) ∙ e))
        ]
      ]

  grown_other : (x : ℕ) → x ≢ a → state_in ys x ≡ state_in xs x
  unfolding state_in place_of
  grown_other x m = find_other x m 33 x (root x) (root_place c x)

  grown_new : place_of xs a ≡ p → state_in ys a ≡ 1
  unfolding state_in place_of
  grown_new e =
      let there = g.link in
      rw (find_new 33 a (root a) (root_place c a) e) (state_node ys p (λ z. omega arith) ∙ rw there g.state)

-- ---- the array with a new node

-- the array with the new node's area, then its state and its two children, from entry `at` on
abbrev grow_1 : List ℕ → ℕ → ℕ → List ℕ
grow_1 xs at a = set xs at a

abbrev grow_2 : List ℕ → ℕ → ℕ → List ℕ
grow_2 xs at a = set (grow_1 xs at a) (at + 1) 1

abbrev grow_3 : List ℕ → ℕ → ℕ → List ℕ
grow_3 xs at a = set (grow_2 xs at a) (at + 2) 0

abbrev grow_4 : List ℕ → ℕ → ℕ → List ℕ
grow_4 xs at a = set (grow_3 xs at a) (at + 3) 0

module _ (xs : List ℕ) (at a p n : ℕ) (size : length xs ≡ 5124) (room : at + 3 < 5124) (before : p < at) where
  grow_size : length (set (grow_4 xs at a) p n) ≡ 5124
  grow_size = simp length-set size

  grow_link : get_or (set (grow_4 xs at a) p n) p 0 ≡ n
  grow_link = get_or-set_same (grow_4 xs at a) p n 0 (simp length-set (omega arith))

  grow_1_other : (i : ℕ) → i ≢ p → i ≢ at + 3 → i ≢ at + 2 → i ≢ at + 1 → get_or (set (grow_4 xs at a) p n) i 0 ≡ get_or (grow_1 xs at a) i 0
  grow_1_other i m c b s =
      get_or-set_other (grow_4 xs at a) p i n 0 m ∙ get_or-set_other (grow_3 xs at a) (at + 3) i 0 0 c ∙ get_or-set_other (grow_2 xs at a) (at + 2) i 0 0 b
      ∙ get_or-set_other (grow_1 xs at a) (at + 1) i 1 0 s

  grow_other : (i : ℕ) → i < at → i ≢ p → get_or (set (grow_4 xs at a) p n) i 0 ≡ get_or xs i 0
  grow_other i l m =
      grow_1_other i m (λ e. omega arith) (λ e. omega arith) (λ e. omega arith) ∙ get_or-set_other xs at i a 0 (λ e. omega arith)

  grow_area : get_or (set (grow_4 xs at a) p n) at 0 ≡ a
  grow_area =
      grow_1_other at (λ e. omega arith) (λ e. omega arith) (λ e. omega arith) (λ e. omega arith) ∙ get_or-set_same xs at a 0 (omega arith)

  grow_state : get_or (set (grow_4 xs at a) p n) (at + 1) 0 ≡ 1
  grow_state =
      get_or-set_other (grow_4 xs at a) p (at + 1) n 0 (λ e. omega arith) ∙ get_or-set_other (grow_3 xs at a) (at + 3) (at + 1) 0 0 (λ e. omega arith)
      ∙ get_or-set_other (grow_2 xs at a) (at + 2) (at + 1) 0 0 (λ e. omega arith)
      ∙ get_or-set_same (grow_1 xs at a) (at + 1) 1 0 (simp length-set (omega arith))

  grow_zero : get_or (set (grow_4 xs at a) p n) (at + 2) 0 ≡ 0
  grow_zero =
      get_or-set_other (grow_4 xs at a) p (at + 2) n 0 (λ e. omega arith) ∙ get_or-set_other (grow_3 xs at a) (at + 3) (at + 2) 0 0 (λ e. omega arith)
      ∙ get_or-set_same (grow_2 xs at a) (at + 2) 0 0 (simp length-set (omega arith))

  grow_one : get_or (set (grow_4 xs at a) p n) (at + 3) 0 ≡ 0
  grow_one =
      get_or-set_other (grow_4 xs at a) p (at + 3) n 0 (λ e. omega arith) ∙ get_or-set_same (grow_3 xs at a) (at + 3) 0 0 (simp length-set (omega arith))

module _ {xs : List ℕ} {c : ℕ} {f : ℕ → ℕ} (h : HoldsAreas xs c f) (room : c < 1024) (a at p : ℕ) (start : at ≡ 1024 + 4 * (c + 1)) (j : ℕ) (stands : Stands h a j p)
    (empty : node_at xs p ≡ 0) where
  ys : List ℕ
  ys = set (grow_4 xs at a) p (c + 1)

  low : p < at
  low = omega (arith, stands.place.low)

  grown_kept : (i : ℕ) → i < at → i ≢ p → get_or ys i 0 ≡ get_or xs i 0
  unfolding ys
  grown_kept = grow_other xs at a p (c + 1) h.size (omega arith) low

  -- the area and the state of a node that was there
  grown_entry : (k i : ℕ) → Made c k → 1024 + 4 * k ≤ i → i ≤ 1025 + 4 * k → get_or ys i 0 ≡ get_or xs i 0
  grown_entry k i (o, m) l u = grown_kept i (omega arith) (λ e. omega (arith, stands.place.child (omega arith)))

  grown_link : node_at ys p ≡ c + 1
  unfolding ys
  grown_link = let e = grow_link xs at a p (c + 1) h.size (omega arith) low in node_here ys p (omega (arith, e)) ∙ e

  grown_child : (b : ℕ) → b ≤ 1 → get_or ys (1026 + 4 * (c + 1) + b) 0 ≡ 0
  unfolding ys
  grown_child b l =
      elim (ℕ_discrete b 0) [
        | yes e ↦ let i : 1026 + 4 * (c + 1) + b ≡ at + 2 = omega arith in rw i (grow_zero xs at a p (c + 1) h.size (omega arith) low)
        | no m ↦ let i : 1026 + 4 * (c + 1) + b ≡ at + 3 = omega arith in rw i (grow_one xs at a p (c + 1) h.size (omega arith) low)
      ]

  grown : Grown xs ys c p a
  unfolding ys
  grown =
      let i : 1025 + 4 * (c + 1) ≡ at + 1 = omega arith in
      let other = place_other c p stands.place in
      record {
        place = stands.place;
        before = empty;
        none_before = h.empty;
        none = node_same xs ys 1024 (grown_kept 1024 (omega arith) (λ e. other (sym e))) ∙ h.empty;
        link = grown_link;
        area = rw (← start) (grow_area xs at a p (c + 1) h.size (omega arith) low);
        state = rw i (grow_state xs at a p (c + 1) h.size (omega arith) low);
        children = λ b l. let e = grown_child b l in node_here ys (1026 + 4 * (c + 1) + b) (omega (arith, e)) ∙ e;
        nodes_other = λ q l m. node_same xs ys q (grown_kept q (omega (arith, l.low)) m);
        areas_other = λ k m. grown_entry k (1024 + 4 * k) m (omega arith) (omega arith);
        states_other = λ k m. grown_entry k (1025 + 4 * k) m (omega arith) (omega arith);
      }

  -- the ways to the nodes
  to' : ℕ → List ℕ
  to' k = cond (eqb k (c + 1)) (way j a) (h.to k)

  to_new : to' (c + 1) ≡ way j a
  unfolding to'
  to_new = rw (eq-eqb (c + 1) (c + 1) refl)

  to_kept : (k : ℕ) → k ≤ c → to' k ≡ h.to k
  unfolding to'
  to_kept k l = rw (ne_eqb k (c + 1) (λ e. omega arith))

  -- a place with a node is the one that got the new node, or had its node before
  grown_linked : (q : ℕ) → Place (c + 1) q → node_at ys q ≢ 0 → (node_at ys q ≤ c + 1) × (to' (node_at ys q) ≡ way_to to' q)
  grown_linked q l n =
      elim (ℕ_discrete q p) [
        | yes e ↦ rw (e, grown_link) (omega arith, to_new ∙ sym stands.here ∙ sym (way_kept to' h.to c p stands.place to_kept))
        | no m ↦ elim (dec_lt q at) [
          | yes u ↦
              let o : Place c q = record { low = omega arith; child = l.child } in
              let s = grown.nodes_other q o m in
              let (k, w) = h.linked q o (λ z. n (s ∙ z)) in
              rw s (omega arith, to_kept (node_at xs q) k ∙ w ∙ sym (way_kept to' h.to c q o to_kept))
          | no u ↦
              let (t, r) = l.child (omega arith) in
              let v = l.low in
              let i : q ≡ 1026 + 4 * (c + 1) + q % 2 = omega arith in
              absurd (n (ap (λ (i : ℕ). node_at ys i) i ∙ grown.children (q % 2) (omega arith)))
        ]
      ]

  -- what holds of the new node and of those before holds of each
  grown_each : (P : ℕ → Type 0) → P (c + 1) → ((k : ℕ) → Made c k → P k) → (k : ℕ) → Made (c + 1) k → P k
  grown_each P new old k (o, m) = elim (ℕ_discrete k (c + 1)) [ yes e ↦ rw e new | no n ↦ old k (o, omega arith) ]

  grown_holds : a < 4294967296 → place_of xs a ≡ p → HoldsAreas ys (c + 1) (λ x. cond (eqb x a) 1 (f x))
  unfolding ys
  grown_holds l e =
      record {
        size = grow_size xs at a p (c + 1) h.size (omega arith) low;
        room = omega arith;
        told = told_put xs ys f a 1 h.told (grown_new xs ys c p a (counted h) grown e) (grown_other xs ys c p a (counted h) grown);
        empty = grown.none;
        to = to';
        linked = grown_linked;
        bits =
            grown_each (λ k. (i : ℕ) × (way i (area_of ys k) ≡ to' k)) (j, ap (way j) grown.area ∙ sym to_new)
            (λ k m. let (i, w) = h.bits k m in (i, ap (way i) (grown.areas_other k m) ∙ w ∙ sym (to_kept k m.1)));
        small = grown_each (λ k. area_of ys k < 4294967296) (rw grown.area l) (λ k m. rw (grown.areas_other k m) (h.small k m));
        known = grown_each (λ k. state_of ys k ≢ 0) (λ z. omega (arith, grown.state)) (λ k m z. h.known k m (sym (grown.states_other k m) ∙ z));
      }

-- an area of which nothing is known got a node
pub holds_allocate : {xs : List ℕ} {c : ℕ} {f : ℕ → ℕ} → HoldsAreas xs c f → c < 1024 → (a at p : ℕ) → a < 4294967296 → at ≡ 1024 + 4 * (c + 1) → p ≡ place_of xs a
    → f a ≡ 0 → HoldsAreas (set (grow_4 xs at a) p (c + 1)) (c + 1) (λ x. cond (eqb x a) 1 (f x))
unfolding ys
holds_allocate h room a at p l start e z =
    let w = found h a l in
    let stands = w.stands in
    grown_holds h room a at p start w.bits (rw (← e) at stands) (rw e (found_empty h a l z)) l (sym e)

-- ---- a new state

module _ {xs : List ℕ} {c : ℕ} {f : ℕ → ℕ} (h : HoldsAreas xs c f) (a : ℕ) (l : a < 4294967296) (there : node_at xs (place_of xs a) ≢ 0) where
  k : ℕ
  k = node_at xs (place_of xs a)

  zs : List ℕ
  zs = set xs (1025 + 4 * k) 2

  kept : (i : ℕ) → i ≢ 1025 + 4 * k → get_or zs i 0 ≡ get_or xs i 0
  unfolding zs
  kept i n = get_or-set_other xs (1025 + 4 * k) i 2 0 n

  state_new : state_of zs k ≡ 2
  unfolding zs k
  state_new = get_or-set_same xs (1025 + 4 * k) 2 0 (omega (arith, h.size, node_small xs (place_of xs a)))

  -- no node's area changes, no place, and no other node's state
  area_kept : (m : ℕ) → area_of zs m ≡ area_of xs m
  area_kept m = kept (1024 + 4 * m) (λ e. omega arith)

  state_kept : (m : ℕ) → m ≢ k → state_of zs m ≡ state_of xs m
  state_kept m n = kept (1025 + 4 * m) (λ e. n (omega arith))

  none_kept : node_at zs 1024 ≡ node_at xs 1024
  none_kept = node_same xs zs 1024 (kept 1024 (λ e. omega arith))

  node_kept : (q : ℕ) → Place c q → node_at zs q ≡ node_at xs q
  node_kept q o = node_same xs zs q (kept q (λ e. omega (arith, o.child (omega arith))))

  find_kept : (x n rest q : ℕ) → Place c q → find_from zs x n rest q ≡ find_from xs x n rest q
  unfolding ends child
  find_kept x zero rest q o = find_zero zs x rest q ∙ sym (find_zero xs x rest q)
  find_kept x (suc n) rest q o =
      let e : ends zs x q ≡ ends xs x q = rw (node_kept q o, area_kept (node_at xs q)) in
      let s : child zs rest q ≡ child xs rest q = rw (node_kept q o) in
      elim (which (ends xs x q)) [
        | inl t ↦ find_end zs x (suc n) rest q (omega arith) (e ∙ t) ∙ sym (find_end xs x (suc n) rest q (omega arith) t)
        | inr t ↦
            find_step zs x n rest q (e ∙ t) ∙ rw s (find_kept x n (rest / 2) (child xs rest q) (child_on xs c (counted h) x rest q o t))
            ∙ sym (find_step xs x n rest q t)
      ]

  place_kept : (x : ℕ) → place_of zs x ≡ place_of xs x
  unfolding place_of
  place_kept x = find_kept x 33 x (root x) (root_place c x)

  put_new : state_in zs a ≡ 2
  unfolding state_in k
  put_new =
      let p = place_of xs a in
      let e = node_kept p (found h a l).stands.place in
      rw (place_kept a) (state_node zs p (λ z. there (sym e ∙ z)) ∙ rw e state_new)

  -- the state of an area is where its node is, and that is no other's
  put_other : (x : ℕ) → x ≢ a → state_in zs x ≡ state_in xs x
  unfolding state_in k
  put_other x n =
      let q = place_of xs x in
      rw (place_kept x) (elim (ℕ_discrete q 1024) [
        | yes e ↦ rw e (state_empty zs 1024 (none_kept ∙ h.empty) ∙ sym (state_empty xs 1024 h.empty))
        | no m ↦
            let (o, t) = place_place xs c (counted h) x m in
            let e = node_kept q o in
            elim (ℕ_discrete (node_at xs q) 0) [
              | yes z ↦ state_empty zs q (e ∙ z) ∙ sym (state_empty xs q z)
              | no z ↦
                  let mine = ends_says xs a (place_of xs a) (found h a l).ended there in
                  let own = ends_says xs x q t z in
                  state_node zs q (λ w. z (sym e ∙ w))
                  ∙ rw e (state_kept (node_at xs q) (λ w. n (sym own ∙ ap (area_of xs) w ∙ mine)))
                  ∙ sym (state_node xs q z)
            ]
      ])

  put_known : (m : ℕ) → Made c m → state_of zs m ≢ 0
  put_known m o z = elim (ℕ_discrete m k) [ yes e ↦ omega (arith, state_new, sym (ap (state_of zs) e) ∙ z) | no n ↦ h.known m o (sym (state_kept m n) ∙ z) ]

  put_holds : HoldsAreas zs c (λ x. cond (eqb x a) 2 (f x))
  unfolding zs
  put_holds =
      record {
        size = simp length-set h.size;
        room = h.room;
        told = told_put xs zs f a 2 h.told put_new put_other;
        empty = none_kept ∙ h.empty;
        to = h.to;
        linked = λ q o n. let e = node_kept q o in rw e (h.linked q o (λ z. n (e ∙ z)));
        bits = λ m o. let (i, w) = h.bits m o in (i, ap (way i) (area_kept m) ∙ w);
        small = λ m o. rw (area_kept m) (h.small m o);
        known = put_known;
      }

-- an area of which something is known was inserted
pub holds_insert : {xs : List ℕ} {c : ℕ} {f : ℕ → ℕ} → HoldsAreas xs c f → (a k p : ℕ) → a < 4294967296 → p ≡ place_of xs a → k ≡ node_at xs p → f a ≢ 0
    → HoldsAreas (set xs (1025 + 4 * k) 2) c (λ x. cond (eqb x a) 2 (f x))
unfolding zs k
holds_insert h a k p l e d n = rw (d, e) (put_holds h a l (found_node h a l n))

-- ---- what a walk tells

-- what is known of an area by the node at its place
pub told_node : {xs : List ℕ} {c : ℕ} {f : ℕ → ℕ} → HoldsAreas xs c f → (a k p : ℕ) → a < 4294967296 → p ≡ place_of xs a → k ≡ node_at xs p → k ≢ 0 → state_of xs k ≡ f a
unfolding state_in
told_node {xs} h a k p l e d n = rw d (sym (state_node xs p (λ z. n (d ∙ z)))) ∙ ap (state_at xs) e ∙ h.told a l

pub told_none : {xs : List ℕ} {c : ℕ} {f : ℕ → ℕ} → HoldsAreas xs c f → (a p : ℕ) → a < 4294967296 → p ≡ place_of xs a → 0 ≡ node_at xs p → 0 ≡ f a
unfolding state_in
told_none {xs} h a p l e z = sym (state_empty xs p (sym z)) ∙ ap (state_at xs) e ∙ h.told a l

-- ---- the empty tree

pub holds_none : HoldsAreas (replicate 5124 0) 0 (λ _. 0)
unfolding state_in place_of
holds_none =
    let zs = replicate {A = ℕ} 5124 0 in
    let none : (p : ℕ) → node_at zs p ≡ 0 = λ p. let z = zeros 5124 p in node_here zs p (omega (arith, z)) ∙ z in
    record {
      size = length-replicate {A = ℕ} 5124 0;
      room = omega arith;
      told = λ x l. find_empty zs x (none 1024) 33 x (root x) (none (root x));
      empty = none 1024;
      to = λ _. [];
      linked = λ p l n. absurd (n (none p));
      bits = λ k m. absurd (omega arith);
      small = λ k m. absurd (omega arith);
      known = λ k m z. absurd (omega arith);
    }
