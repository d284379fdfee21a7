-- What is known of each area, by its index: 0 nothing, 1 it is allocated, 2 it was inserted. All stands in one array of 5,124 numbers. An area that something is
-- known of has a node, which is found from one of 1,024 roots, that a hash of the index names, by the bits of the index from the lowest on. Places are
-- indexes of the array: the roots are places 0 to 1023. Node k, from 1 on, has its area at 1024 + 4 * k, its state after it, and its two children at the places
-- 1026 + 4 * k and 1027 + 4 * k. A place with 0, or with more than 1,024, is empty; place 1024 is no area's. How many nodes are made does not stand in the array.
use Rattle.std.specs.Prelude.{ℕ, zero, suc, ◌+◌, ◌-◌, ◌*◌, ◌/◌, ◌%◌, ◌≤◌, ◌<◌, Bool, cond, ◌||◌, List, [], ◌∷◌, ◌≢◌, ◌≡◌, eqb, ltb, length, get_or}

-- ---- what an array says of an area

-- the root for an area, below 1,024
unfoldable pub root : ℕ → ℕ
root area = area * 2654435769 % 4294967296 / 4194304

-- the node at place p, or 0
unfoldable pub node_at : List ℕ → ℕ → ℕ
node_at xs p = cond (ltb 1024 (get_or xs p 0)) 0 (get_or xs p 0)

-- the area of node k, and what is known of it
abbrev pub area_of : List ℕ → ℕ → ℕ
area_of xs k = get_or xs (1024 + 4 * k) 0

abbrev pub state_of : List ℕ → ℕ → ℕ
state_of xs k = get_or xs (1025 + 4 * k) 0

-- place p is empty, or its node is the area's
unfoldable pub ends : List ℕ → ℕ → ℕ → Bool
ends xs area p = eqb (node_at xs p) 0 || eqb (area_of xs (node_at xs p)) area

-- the child of the node at place p that the lowest bit of the rest names
unfoldable pub child : List ℕ → ℕ → ℕ → ℕ
child xs rest p = 1026 + 4 * node_at xs p + rest % 2

-- the area's place from place p on, or the empty one that its node would take; 1,024 where n looks do not find it
unfoldable pub find_from : List ℕ → ℕ → ℕ → ℕ → ℕ → ℕ
find_from xs area zero rest p = 1024
find_from xs area (suc n) rest p = cond (ends xs area p) p (find_from xs area n (rest / 2) (child xs rest p))

unfoldable pub place_of : List ℕ → ℕ → ℕ
place_of xs area = find_from xs area 33 area (root area)

-- what is known of an area by its place
unfoldable pub state_at : List ℕ → ℕ → ℕ
state_at xs p = cond (eqb (node_at xs p) 0) 0 (state_of xs (node_at xs p))

-- what is known of an area
unfoldable pub state_in : List ℕ → ℕ → ℕ
state_in xs area = state_at xs (place_of xs area)

-- ---- the arrays that say the same of every area as f

-- x without its lowest j bits
unfoldable pub half : ℕ → ℕ → ℕ
half zero x = x
half (suc j) x = half j x / 2

-- the way to the place where a walk for x stands after j bits: the root, and the bits, the last of them first
unfoldable pub way : ℕ → ℕ → List ℕ
way zero x = root x ∷ []
way (suc j) x = half j x % 2 ∷ way j x

-- the way to place p, by the ways to the nodes
unfoldable pub way_to : (ℕ → List ℕ) → ℕ → List ℕ
way_to to p = cond (ltb p 1024) (p ∷ []) (p % 2 ∷ to (p / 4 - 256))

-- place p is a root, or a child of one of the first c nodes
pub record Place (c p : ℕ) : Type 0 where
  pub low : p < 1028 + 4 * c
  pub child : 1024 ≤ p → (1028 ≤ p) × (2 ≤ p % 4)

-- node k, one of those that are made
abbrev pub Made : ℕ → ℕ → Type 0
Made c k = (1 ≤ k) × (k ≤ c)

-- The array has c nodes, and what it says of every area is what f says.
pub record HoldsAreas (xs : List ℕ) (c : ℕ) (f : ℕ → ℕ) : Type 0 where
  pub size : length xs ≡ 5124
  pub room : c ≤ 1024
  pub told : (x : ℕ) → x < 4294967296 → state_in xs x ≡ f x
  -- the place that is no area's is empty
  pub empty : node_at xs 1024 ≡ 0
  -- There is one way to each node: it leads by the bits of the node's area, and the place where the node stands is its end.
  pub to : ℕ → List ℕ
  pub linked : (p : ℕ) → Place c p → node_at xs p ≢ 0 → (node_at xs p ≤ c) × (to (node_at xs p) ≡ way_to to p)
  pub bits : (k : ℕ) → Made c k → (j : ℕ) × (way j (area_of xs k) ≡ to k)
  pub small : (k : ℕ) → Made c k → area_of xs k < 4294967296
  -- and something is known of its area
  pub known : (k : ℕ) → Made c k → state_of xs k ≢ 0
