-- Regions kept in arrays against the masks of contexts, one for each VTL.
use Rattle.std.specs.Prelude.{ℕ, ◌-◌, ◌<◌, ◌≤◌, Bool, true, false, not, ◌&&◌, List, ◌≡◌, eqb, get_or}
use Rattle.std.proofs.Math.Option.{Option, none, some}
use Rattle.rows.specs.Below.{any_below}
use Rattle.masks.specs.Masks.{shares, individual_masks, first_mask}

-- some of the first n regions has a VP index other than 0, or no context
abbrev pub any_lacks : List ℕ → List ℕ → List ℕ → ℕ → List ℕ → Bool
any_lacks masks vps vtls n contexts = any_below n (λ i. not (eqb (get_or vps i 0) 0 && shares (get_or contexts (get_or vtls i 0) 0) (get_or masks i 0)))

-- the lowest bit of a mask that the mask of a VTL has not, as a mask
unfoldable pub bit_lacking : List ℕ → ℕ → ℕ → Option ℕ
bit_lacking contexts mask vtl = first_mask (λ bit. not (shares (get_or contexts vtl 0) bit)) (individual_masks mask)

-- there is one
abbrev pub found : Option ℕ → Bool
found none = false
found (some bit) = true

-- region i has one
abbrev pub lacks_bit : List ℕ → List ℕ → List ℕ → ℕ → Bool
lacks_bit masks vtls contexts i = found (bit_lacking contexts (get_or masks i 0) (get_or vtls i 0))

-- what each mask of contexts has not
abbrev pub Absent : List ℕ → List ℕ → Type 0
Absent contexts absent = (v : ℕ) → v < 3 → (get_or contexts v 0 ≤ 4294967295) × (get_or absent v 0 ≡ 4294967295 - get_or contexts v 0)
