-- What is known of each area, by its index: 0 nothing, 1 it is allocated, 2 it was inserted. 3 stands for an area of which the table can't tell.
-- Indexes below 1,024 have a place of their own. Any other has a node, which is found from one of 1,024 roots, that a hash of the index names, by the bits of
-- the index. Places are indexes into `links`: the roots are places 0 to 1023, the two children of node k are places 1024 + 2 * k and 1025 + 2 * k. No node has
-- number 0: a place with 0 is empty, and place 1024, which is no area's, has the number of nodes. A table may have room for any number of nodes.
use Rattle.std.specs.Prelude.{ℕ, zero, suc, ◌+◌, ◌*◌, ◌/◌, ◌%◌, ◌≤◌, ◌<◌, Bool, cond, ◌||◌, List, ◌≢◌, ◌≡◌, eqb, ltb, length, get_or}

-- the root for an area, below 1,024
unfoldable pub root : ℕ → ℕ
root area = area * 2654435769 % 4294967296 / 4194304

-- place p is empty, or its node is the area's
unfoldable pub ends : List ℕ → List ℕ → ℕ → ℕ → Bool
ends links areas area p = eqb (get_or links p 0) 0 || eqb (get_or areas (get_or links p 0) 0) area

-- the child of the node at place p that the lowest bit of the rest names
unfoldable pub child : List ℕ → ℕ → ℕ → ℕ
child links rest p = 1024 + 2 * get_or links p 0 + rest % 2

-- the area's place from place p on, or the empty one that its node would take; 1,024 where n looks do not find it
unfoldable pub find_from : List ℕ → List ℕ → ℕ → ℕ → ℕ → ℕ → ℕ
find_from links areas area zero rest p = 1024
find_from links areas area (suc n) rest p = cond (ends links areas area p) p (find_from links areas area n (rest / 2) (child links rest p))

unfoldable pub place_of : List ℕ → List ℕ → ℕ → ℕ
place_of links areas area = find_from links areas area 33 area (root area)

-- p is the area's place, or the empty one that its node would take
pub record PlaceOf (links areas : List ℕ) (area p : ℕ) : Type 0 where
  pub is : p ≡ place_of links areas area
  pub other : p ≢ 1024

-- what is known of an area by its place: where it is empty, nothing, as long as another node can be made
unfoldable pub state_at : List ℕ → List ℕ → ℕ → ℕ
state_at links states p =
    cond (eqb p 1024) 3
    (cond (eqb (get_or links p 0) 0) (cond (ltb (get_or links 1024 0 + 1) (length states)) 0 3) (get_or states (get_or links p 0) 0))

-- what is known of an area
unfoldable pub state_in : List ℕ → List ℕ → List ℕ → List ℕ → ℕ → ℕ
state_in few links areas states area = cond (ltb area 1024) (get_or few area 0) (state_at links states (place_of links areas area))

-- the arrays of the tree fit each other, and every link is to a node that was made
pub record Tree (links areas states : List ℕ) : Type 0 where
  pub sizes : (length links ≡ 1024 + 2 * length states) × (length areas ≡ length states) × (length states ≤ 65536)
  -- nodes are numbered from 1 on, and those to come have no children
  pub room : get_or links 1024 0 < length states
  pub counted : (p : ℕ) → get_or links p 0 ≤ get_or links 1024 0
  pub fresh : (p : ℕ) → 1026 + 2 * get_or links 1024 0 ≤ p → get_or links p 0 ≡ 0

-- f says of every area what is known of it, wherever the table can tell
pub record HoldsAreas (few links areas states : List ℕ) (f : ℕ → ℕ) : Type 0 where
  pub few_size : length few ≡ 1024
  pub tree : Tree links areas states
  pub told : (x : ℕ) → state_in few links areas states x ≢ 3 → state_in few links areas states x ≡ f x
