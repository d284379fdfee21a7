-- Laws of the table of areas: where an area's place is, what a new node changes, and the empty table.
use lib.ListN.{length-replicate}
use Rattle.rows.{proofs.Kit.{ℕ, zero, suc, ◌+◌, ◌*◌, ◌-◌, ◌/◌, ◌%◌, ◌≤◌, ◌<◌, dec_lt, ℕ_discrete, arith, true, false, cond, List, ◌≢◌, inl, inr, ◌≡◌, refl, sym, ap, ◌∙◌, eqb, length, get_or, set, replicate, length-set, get_or-set_same, get_or-set_other, lt-ltb, le-ltb, eq-eqb, ne_eqb, eqb-true}, proofs.Bools.{which, not_both, or_left, or_right, or_cases, or_both_false}, proofs.BelowLaws.zeros}
use Rattle.area_table.specs.AreaTable.{root, ends, child, find_from, place_of, PlaceOf, state_at, state_in, Tree, HoldsAreas}

root_small : (x : ℕ) → root x < 1024
unfolding root
root_small x = omega arith

-- ---- what is known of an area

module _ (links states : List ℕ) (p : ℕ) where
  pub state_none : p ≡ 1024 → state_at links states p ≡ 3
  unfolding state_at
  state_none e = rw (eq-eqb p 1024 e)

  pub state_node : p ≢ 1024 → get_or links p 0 ≢ 0 → state_at links states p ≡ get_or states (get_or links p 0) 0
  unfolding state_at
  state_node m n = rw (ne_eqb p 1024 m, ne_eqb _ _ n)

  pub state_empty : p ≢ 1024 → get_or links p 0 ≡ 0 → get_or links 1024 0 + 1 < length states → state_at links states p ≡ 0
  unfolding state_at
  state_empty m e c = rw (ne_eqb p 1024 m, eq-eqb _ _ e, lt-ltb (get_or links 1024 0 + 1) (length states) c)

  pub state_full : p ≢ 1024 → get_or links p 0 ≡ 0 → length states ≤ get_or links 1024 0 + 1 → state_at links states p ≡ 3
  unfolding state_at
  state_full m e c = rw (ne_eqb p 1024 m, eq-eqb _ _ e, le-ltb (get_or links 1024 0 + 1) (length states) c)

  -- where the table can tell, the area has a place
  pub place_told : state_at links states p ≢ 3 → p ≢ 1024
  place_told n e = n (state_none e)

  -- where that is empty, another node can be made
  pub room_told : state_at links states p ≢ 3 → get_or links p 0 ≡ 0 → get_or links 1024 0 + 1 < length states
  room_told n e =
      elim (dec_lt (get_or links 1024 0 + 1) (length states)) [ yes l ↦ l | no l ↦ absurd (n (state_full (place_told n) e (omega arith))) ]

  -- and nothing is known
  empty_told : state_at links states p ≢ 3 → get_or links p 0 ≡ 0 → state_at links states p ≡ 0
  empty_told n e = state_empty (place_told n) e (room_told n e)

module _ (few links areas states : List ℕ) (x : ℕ) where
  pub state_few : x < 1024 → state_in few links areas states x ≡ get_or few x 0
  unfolding state_in
  state_few l = rw (lt-ltb x 1024 l)

  pub state_large : 1024 ≤ x → state_in few links areas states x ≡ state_at links states (place_of links areas x)
  unfolding state_in
  state_large l = rw (le-ltb x 1024 l)

  -- by its place
  pub state_place : 1024 ≤ x → (r : ℕ) → r ≡ place_of links areas x → state_in few links areas states x ≡ state_at links states r
  state_place l r e = rw e (state_large l)

-- ---- where a walk ends

module _ (links areas : List ℕ) (x p : ℕ) where
  ends_empty : get_or links p 0 ≡ 0 → ends links areas x p ≡ true
  unfolding ends
  ends_empty e = or_left (eqb (get_or links p 0) 0) (eqb (get_or areas (get_or links p 0) 0) x) (eq-eqb _ _ e)

  ends_own : get_or areas (get_or links p 0) 0 ≡ x → ends links areas x p ≡ true
  unfolding ends
  ends_own e = or_right (eqb (get_or links p 0) 0) (eqb (get_or areas (get_or links p 0) 0) x) (eq-eqb _ _ e)

  ends_not : get_or links p 0 ≢ 0 → get_or areas (get_or links p 0) 0 ≢ x → ends links areas x p ≡ false
  unfolding ends
  ends_not n m = or_both_false (eqb (get_or links p 0) 0) (eqb (get_or areas (get_or links p 0) 0) x) (ne_eqb _ _ n) (ne_eqb _ _ m)

  -- at a node, it is the area's
  ends_says : ends links areas x p ≡ true → get_or links p 0 ≢ 0 → get_or areas (get_or links p 0) 0 ≡ x
  unfolding ends
  ends_says h n =
      elim (or_cases (eqb (get_or links p 0) 0) (eqb (get_or areas (get_or links p 0) 0) x) h) [ inl e ↦ absurd (n (eqb-true _ _ e)) | inr e ↦ eqb-true _ _ e ]

module _ (links areas : List ℕ) (x : ℕ) where
  pub find_end : (n rest p : ℕ) → 0 < n → ends links areas x p ≡ true → find_from links areas x n rest p ≡ p
  unfolding find_from
  find_end zero rest p z e = absurd (omega arith)
  find_end (suc n) rest p z e = rw e

  find_step : (n rest p : ℕ) → ends links areas x p ≡ false → find_from links areas x (suc n) rest p ≡ find_from links areas x n (rest / 2) (child links rest p)
  unfolding find_from
  find_step n rest p e = rw e

  -- the look after n others
  pub find_look : (n rest p : ℕ) → n < 33 → ends links areas x p ≡ false
      → find_from links areas x (33 - n) rest p ≡ find_from links areas x (33 - (n + 1)) (rest / 2) (child links rest p)
  find_look n rest p l e = let q : 33 - n ≡ suc (33 - (n + 1)) = omega arith in rw q (find_step (33 - (n + 1)) rest p e)

  pub find_zero : (rest p : ℕ) → find_from links areas x 0 rest p ≡ 1024
  unfolding find_from
  find_zero rest p = refl

  -- The place that is found is empty, or its node is the area's. What holds of the first place, and with a node's place of its children, holds of it.
  find_says : (P : ℕ → Type 0) → ((rest p : ℕ) → P p → ends links areas x p ≡ false → P (child links rest p)) → (n rest p : ℕ) → P p
      → find_from links areas x n rest p ≢ 1024 → P (find_from links areas x n rest p) × (ends links areas x (find_from links areas x n rest p) ≡ true)
  find_says P on zero rest p h m = absurd (m (find_zero rest p))
  find_says P on (suc n) rest p h m =
      elim (which (ends links areas x p)) [
        | inl e ↦ rw (find_end (suc n) rest p (omega arith) e) (h, e)
        | inr e ↦ let q = find_step n rest p e in rw q (find_says P on n (rest / 2) (child links rest p) (on rest p h e) (rw q at m))
      ]

  place_says : place_of links areas x ≢ 1024 → ends links areas x (place_of links areas x) ≡ true
  unfolding place_of
  place_says m = (find_says (λ _. Unit) (λ _ _ _ _. tt) 33 x (root x) tt m).1

  -- from an empty place no walk goes on
  find_stays : (n rest p : ℕ) → get_or links p 0 ≡ 0 → find_from links areas x n rest p ≢ 1024 → get_or links (find_from links areas x n rest p) 0 ≡ 0
  find_stays zero rest p e m = absurd (m (find_zero rest p))
  find_stays (suc n) rest p e m = rw (find_end (suc n) rest p (omega arith) (ends_empty links areas x p e)) e

  place_at_root : get_or links (root x) 0 ≡ 0 → place_of links areas x ≡ root x
  unfolding place_of
  place_at_root e = find_end 33 x (root x) (omega arith) (ends_empty links areas x (root x) e)

-- ---- the places that walks come by

-- a root, or a child of one of the first c nodes
pub record Child (c p : ℕ) : Type 0 where
  pub other : p ≢ 1024
  pub low : p < 1026 + 2 * c

module _ (links areas : List ℕ) (c : ℕ) (counted : (p : ℕ) → get_or links p 0 ≤ c) (x : ℕ) where
  pub child_on : (rest p : ℕ) → ends links areas x p ≡ false → Child c (child links rest p)
  unfolding child
  child_on rest p e =
      let k = counted p in
      let z : get_or links p 0 ≢ 0 = λ q. not_both e (ends_empty links areas x p q) in
      record { other = λ q. z (omega arith); low = omega arith }

  pub root_child : Child c (root x)
  root_child = record { other = λ q. omega (arith, root_small x); low = omega (arith, root_small x) }

  place_child : place_of links areas x ≢ 1024 → Child c (place_of links areas x)
  unfolding place_of
  place_child m = (find_says links areas x (Child c) (λ rest p _ e. child_on rest p e) 33 x (root x) root_child m).0

-- ---- a new node

-- the empty place p got a new node with area a, and nothing else changed but the number of nodes
record Grown (links areas links' areas' : List ℕ) (c p a : ℕ) : Type 0 where
  counted : (i : ℕ) → get_or links i 0 ≤ c
  fresh : (i : ℕ) → 1026 + 2 * c ≤ i → get_or links i 0 ≡ 0
  empty : get_or links p 0 ≡ 0
  place : Child c p
  link : get_or links' p 0 ≡ c + 1
  area : get_or areas' (c + 1) 0 ≡ a
  links_other : (i : ℕ) → i ≢ p → i ≢ 1024 → get_or links' i 0 ≡ get_or links i 0
  areas_other : (k : ℕ) → k ≢ c + 1 → get_or areas' k 0 ≡ get_or areas k 0

-- a walk for area x that ended at place r ends at place r' now: at the same one, or it met the new node
data Walk (links' : List ℕ) (p a x r r' : ℕ) : Type 0 where
  same : r' ≡ r → r ≢ p → Walk links' p a x r r'
  own : x ≡ a → r ≡ p → r' ≡ p → Walk links' p a x r r'
  past : x ≢ a → r ≡ p → (r' ≢ 1024 → get_or links' r' 0 ≡ 0) → Walk links' p a x r r'

module _ (links areas links' areas' : List ℕ) (c p a : ℕ) (g : Grown links areas links' areas' c p a) (x : ℕ) where
  ends_other : (q : ℕ) → q ≢ p → q ≢ 1024 → ends links' areas' x q ≡ ends links areas x q
  unfolding ends
  ends_other q n m = let k = g.counted q in rw (g.links_other q n m, g.areas_other (get_or links q 0) (λ e. omega arith))

  child_other : (rest q : ℕ) → q ≢ p → q ≢ 1024 → child links' rest q ≡ child links rest q
  unfolding child
  child_other rest q n m = rw (g.links_other q n m)

  -- the children of the new node are empty
  child_new : (rest : ℕ) → get_or links' (child links' rest p) 0 ≡ 0
  unfolding child
  child_new rest =
      let l = g.place.low in
      let s = 1024 + 2 * (c + 1) + rest % 2 in
      rw g.link (g.links_other s (λ e. omega arith) (λ e. omega arith) ∙ g.fresh s (omega arith))

  walk_new : (n rest : ℕ) → Walk links' p a x (find_from links areas x (suc n) rest p) (find_from links' areas' x (suc n) rest p)
  walk_new n rest =
      let here : get_or areas' (get_or links' p 0) 0 ≡ a = rw g.link g.area in
      let before = find_end links areas x (suc n) rest p (omega arith) (ends_empty links areas x p g.empty) in
      elim (ℕ_discrete x a) [
        | yes e ↦ own e before (find_end links' areas' x (suc n) rest p (omega arith) (ends_own links' areas' x p (here ∙ sym e)))
        | no m ↦
            let f = ends_not links' areas' x p (λ e. omega (arith, g.link)) (λ e. m (sym e ∙ here)) in
            past m before (rw (find_step links' areas' x n rest p f) (find_stays links' areas' x n (rest / 2) (child links' rest p) (child_new rest)))
      ]

  walk : (n rest q : ℕ) → Child c q → Walk links' p a x (find_from links areas x n rest q) (find_from links' areas' x n rest q)
  walk zero rest q h = rw (find_zero links areas x rest q, find_zero links' areas' x rest q) (same refl (λ e. g.place.other (sym e)))
  walk (suc n) rest q h =
      elim (ℕ_discrete q p) [
        | yes e ↦ rw e (walk_new n rest)
        | no m ↦ elim (which (ends links areas x q)) [
          | inl t ↦
              let after = find_end links' areas' x (suc n) rest q (omega arith) (ends_other q m h.other ∙ t) in
              rw (find_end links areas x (suc n) rest q (omega arith) t, after) (same refl m)
          | inr t ↦
              let after = find_step links' areas' x n rest q (ends_other q m h.other ∙ t) in
              rw (find_step links areas x n rest q t, after, child_other rest q m h.other)
              (walk n (rest / 2) (child links rest q) (child_on links areas c g.counted x rest q t))
        ]
      ]

  place_walk : Walk links' p a x (place_of links areas x) (place_of links' areas' x)
  unfolding place_of
  place_walk = walk 33 x (root x) (root_child links areas c g.counted x)

-- the area's node is the new one
place_new : (links areas links' areas' : List ℕ) (c p a : ℕ) → Grown links areas links' areas' c p a → place_of links areas a ≡ p → place_of links' areas' a ≡ p
place_new links areas links' areas' c p a g e =
    elim (place_walk links areas links' areas' c p a g a) [ same _ n ↦ absurd (n e) | own _ _ q ↦ q | past n _ _ ↦ absurd (n refl) ]

-- of another area the same is known as before, where the table can tell
module _ (links areas states links' areas' states' : List ℕ) (c p a : ℕ) (g : Grown links areas links' areas' c p a) (room : get_or links 1024 0 + 1 < length states)
    (states_other : (k : ℕ) → k ≢ c + 1 → get_or states' k 0 ≡ get_or states k 0) where
  -- at the same place
  same_told : (x : ℕ) → place_of links areas x ≢ 1024 → place_of links areas x ≢ p → state_at links' states' (place_of links areas x) ≢ 3
      → state_at links' states' (place_of links areas x) ≡ state_at links states (place_of links areas x)
  same_told x l n t =
      let r = place_of links areas x in
      let link : get_or links' r 0 ≡ get_or links r 0 = g.links_other r n l in
      elim (ℕ_discrete (get_or links r 0) 0) [
        | yes e ↦ empty_told links' states' r t (link ∙ e) ∙ sym (state_empty links states r l e room)
        | no m ↦
            state_node links' states' r l (λ e. m (sym link ∙ e)) ∙ ap (λ (k : ℕ). get_or states' k 0) link
            ∙ states_other (get_or links r 0) (λ e. omega (arith, g.counted r)) ∙ sym (state_node links states r l m)
      ]

  told_after : (x : ℕ) → x ≢ a → state_at links' states' (place_of links' areas' x) ≢ 3
      → state_at links' states' (place_of links' areas' x) ≡ state_at links states (place_of links areas x)
  told_after x n t =
      let l = place_told links' states' (place_of links' areas' x) t in
      elim (place_walk links areas links' areas' c p a g x) [
        | same e m ↦ rw e (same_told x (rw e at l) m (rw e at t))
        | own e _ _ ↦ absurd (n e)
        | past _ e empty ↦
            empty_told links' states' (place_of links' areas' x) t (empty l) ∙ rw e (sym (state_empty links states p g.place.other g.empty room))
      ]

-- ---- what the arrays hold

pub holds_same : {few links areas states : List ℕ} {f g : ℕ → ℕ} → HoldsAreas few links areas states f → ((x : ℕ) → f x ≡ g x) → HoldsAreas few links areas states g
holds_same h e = record { few_size = h.few_size; tree = h.tree; told = λ x n. h.told x n ∙ e x }

-- a link is to one of the nodes that the arrays have
pub tree_link : {links areas states : List ℕ} → Tree links areas states → (p : ℕ) → get_or links p 0 < length states
tree_link t p = omega (arith, t.room, t.counted p)

-- a child of a node, or a root, is a place of the arrays
pub child_place : {links areas states : List ℕ} → Tree links areas states → (p : ℕ) → Child (get_or links 1024 0) p → p < length links
child_place t p h =
    let (l, _, _) = t.sizes in
    omega (arith, l, t.room, h.low)

-- what the arrays tell, they hold
pub holds_self : {few links areas states : List ℕ} → length few ≡ 1024 → Tree links areas states → HoldsAreas few links areas states (state_in few links areas states)
holds_self size tree = record { few_size = size; tree = tree; told = λ x n. refl }

module _ (few links areas states : List ℕ) (f : ℕ → ℕ) (h : HoldsAreas few links areas states f) (a v : ℕ) where
  -- one area has a new state, and of the others that can be told the same is known
  told_put : (few' links' areas' states' : List ℕ) → state_in few' links' areas' states' a ≡ v
      → ((x : ℕ) → x ≢ a → state_in few' links' areas' states' x ≢ 3 → state_in few' links' areas' states' x ≡ state_in few links areas states x)
      → (x : ℕ) → state_in few' links' areas' states' x ≢ 3 → state_in few' links' areas' states' x ≡ cond (eqb x a) v (f x)
  told_put few' links' areas' states' new old x n =
      elim (ℕ_discrete x a) [
        | yes e ↦ rw (e, eq-eqb a a refl) new
        | no m ↦ let q = old x m n in rw (ne_eqb x a m) (q ∙ h.told x (λ t. n (q ∙ t)))
      ]

  pub holds_put_few : a < 1024 → HoldsAreas (set few a v) links areas states (λ x. cond (eqb x a) v (f x))
  holds_put_few l =
      let size = h.few_size in
      let new : state_in (set few a v) links areas states a ≡ v = state_few _ links areas states a l ∙ get_or-set_same few a v 0 (omega arith) in
      let other : (x : ℕ) → x ≢ a → state_in (set few a v) links areas states x ≡ state_in few links areas states x =
      λ x m. elim (dec_lt x 1024) [
        | yes k ↦ state_few _ links areas states x k ∙ get_or-set_other few a x v 0 m ∙ sym (state_few few links areas states x k)
        | no k ↦ state_large _ links areas states x (omega arith) ∙ sym (state_large few links areas states x (omega arith))
      ] in
      record {
        few_size = simp length-set size;
        tree = h.tree;
        told = told_put (set few a v) links areas states new (λ x m _. other x m);
      }

  -- what is known of the large areas tells what is known of all
  told_large : (links' areas' states' : List ℕ) → 1024 ≤ a → state_at links' states' (place_of links' areas' a) ≡ v
      → ((x : ℕ) → x ≢ a → state_at links' states' (place_of links' areas' x) ≢ 3 → state_at links' states' (place_of links' areas' x) ≡ state_at links states (place_of links areas x))
      → (x : ℕ) → state_in few links' areas' states' x ≢ 3 → state_in few links' areas' states' x ≡ cond (eqb x a) v (f x)
  told_large links' areas' states' l new old =
      told_put few links' areas' states' (state_large few links' areas' states' a l ∙ new) (λ x m n.
      elim (dec_lt x 1024) [
        | yes k ↦ state_few few links' areas' states' x k ∙ sym (state_few few links areas states x k)
        | no k ↦
            let e = state_large few links' areas' states' x (omega arith) in
            e ∙ old x m (λ t. n (e ∙ t)) ∙ sym (state_large few links areas states x (omega arith))
      ])

  pub holds_put_node : 1024 ≤ a → (p : ℕ) → PlaceOf links areas a p → get_or links p 0 ≢ 0
      → HoldsAreas few links areas (set states (get_or links p 0) v) (λ x. cond (eqb x a) v (f x))
  holds_put_node l p o n =
      let e = o.is in
      let b = o.other in
      let tree = h.tree in
      let sizes = tree.sizes in
      let room = tree.room in
      let k = get_or links p 0 in
      let states' = set states k v in
      let long : length states' ≡ length states = length-set states k v in
      let new : state_at links states' (place_of links areas a) ≡ v =
      rw (← e) (state_node links states' p b n ∙ get_or-set_same states k v 0 (tree_link tree p)) in
      let mine : get_or areas k 0 ≡ a = ends_says links areas a p (rw e (place_says links areas a (rw e at b))) n in
      let other : (x : ℕ) → x ≢ a → state_at links states' (place_of links areas x) ≢ 3
      → state_at links states' (place_of links areas x) ≡ state_at links states (place_of links areas x) =
      λ x m t.
      let r = place_of links areas x in
      let q = place_told links states' r t in
      elim (ℕ_discrete (get_or links r 0) 0) [
        | yes e ↦ empty_told links states' r t e ∙ sym (state_empty links states r q e (omega (arith, long, room_told links states' r t e)))
        | no z ↦
            let own = ends_says links areas x r (place_says links areas x q) z in
            state_node links states' r q z
            ∙ get_or-set_other states k (get_or links r 0) v 0 (λ e. m (sym own ∙ ap (λ (i : ℕ). get_or areas i 0) e ∙ mine))
            ∙ sym (state_node links states r q z)
      ] in
      record {
        few_size = h.few_size;
        tree = record { sizes = simp length-set sizes; room = simp length-set room; counted = tree.counted; fresh = tree.fresh };
        told = told_large links areas states' l new other;
      }

  pub holds_put_new : 1024 ≤ a → (p : ℕ) → PlaceOf links areas a p → get_or links p 0 ≡ 0 → get_or links 1024 0 + 1 < length states
      → HoldsAreas few (set (set links p (get_or links 1024 0 + 1)) 1024 (get_or links 1024 0 + 1)) (set areas (get_or links 1024 0 + 1) a)
      (set states (get_or links 1024 0 + 1) v) (λ x. cond (eqb x a) v (f x))
  holds_put_new l p o z room =
      let e = o.is in
      let b = o.other in
      let tree = h.tree in
      let sizes = tree.sizes in
      let c = get_or links 1024 0 in
      let links' = set (set links p (c + 1)) 1024 (c + 1) in
      let areas' = set areas (c + 1) a in
      let states' = set states (c + 1) v in
      let place : Child c p = rw e (place_child links areas c tree.counted a (rw e at b)) in
      let low = place.low in
      let link : get_or links' p 0 ≡ c + 1 =
      get_or-set_other (set links p (c + 1)) 1024 p (c + 1) 0 place.other ∙ get_or-set_same links p (c + 1) 0 (child_place tree p place) in
      let count : get_or links' 1024 0 ≡ c + 1 = get_or-set_same (set links p (c + 1)) 1024 (c + 1) 0 (simp length-set (omega (arith, sizes.0))) in
      let links_other : (i : ℕ) → i ≢ p → i ≢ 1024 → get_or links' i 0 ≡ get_or links i 0 =
      λ i n m. get_or-set_other (set links p (c + 1)) 1024 i (c + 1) 0 m ∙ get_or-set_other links p i (c + 1) 0 n in
      let grown : Grown links areas links' areas' c p a =
      record {
        counted = tree.counted;
        fresh = tree.fresh;
        empty = z;
        place = place;
        link = link;
        area = get_or-set_same areas (c + 1) a 0 (omega (arith, sizes.1));
        links_other = links_other;
        areas_other = λ k m. get_or-set_other areas (c + 1) k a 0 m;
      } in
      let new : state_at links' states' (place_of links' areas' a) ≡ v =
      rw (place_new links areas links' areas' c p a grown (sym e))
      (state_node links' states' p b (λ e. omega arith) ∙ rw link (get_or-set_same states (c + 1) v 0 room)) in
      let other = told_after links areas states links' areas' states' c p a grown room (λ k m. get_or-set_other states (c + 1) k v 0 m) in
      let more : (i : ℕ) → get_or links' i 0 ≤ get_or links' 1024 0 =
      λ i. elim (ℕ_discrete i p) [
        | yes e ↦ rw (e, link, count) (omega arith)
        | no n ↦ elim (ℕ_discrete i 1024) [ yes e ↦ rw e (omega arith) | no m ↦ rw (links_other i n m, count) (omega (arith, tree.counted i)) ]
      ] in
      let fresh : (i : ℕ) → 1026 + 2 * get_or links' 1024 0 ≤ i → get_or links' i 0 ≡ 0 =
      λ i m. links_other i (λ e. omega arith) (λ e. omega arith) ∙ tree.fresh i (omega arith) in
      let fits : get_or links' 1024 0 < length states' = rw count (simp length-set room) in
      record {
        few_size = h.few_size;
        tree = record { sizes = simp length-set sizes; room = fits; counted = more; fresh = fresh };
        told = told_large links' areas' states' l new other;
      }

-- ---- the empty table

-- where every link is 0, nothing is known of any area, whatever stands in the nodes
holds_empty : (few links areas states : List ℕ) → length few ≡ 1024
    → (length links ≡ 1024 + 2 * length states) × (length areas ≡ length states) × (length states ≤ 65536) → 0 < length states
    → ((i : ℕ) → get_or few i 0 ≡ 0) → ((p : ℕ) → get_or links p 0 ≡ 0) → HoldsAreas few links areas states (λ _. 0)
holds_empty few links areas states size sizes some no-few no-link =
    record {
      few_size = size;
      tree = record { sizes = sizes; room = omega (arith, no-link 1024, some); counted = λ p. omega (arith, no-link p); fresh = λ p _. no-link p };
      told =
          λ x n. elim (dec_lt x 1024) [
            | yes l ↦ state_few few links areas states x l ∙ no-few x
            | no l ↦
                let e = state_large few links areas states x (omega arith) in
                let q = place_at_root links areas x (no-link (root x)) in
                e ∙ empty_told links states (place_of links areas x) (λ t. n (e ∙ t)) (ap (λ (i : ℕ). get_or links i 0) q ∙ no-link (root x))
          ];
    }

-- a table of n nodes, with node 0
pub holds_none : (n : ℕ) → 0 < n → n ≤ 65536 → HoldsAreas (replicate 1024 0) (replicate (1024 + 2 * n) 0) (replicate n 0) (replicate n 0) (λ _. 0)
holds_none n some small =
    let size = length-replicate {A = ℕ} in
    let long : length {A = ℕ} (replicate n 0) ≡ n = size n 0 in
    holds_empty _ _ _ _ (size 1024 0) (rw long (size (1024 + 2 * n) 0, refl, small)) (rw long some) (zeros 1024) (zeros (1024 + 2 * n))
