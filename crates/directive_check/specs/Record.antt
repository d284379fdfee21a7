-- The contexts' masks, one for each VTL, and the rows that they stand for.
use Rattle.std.specs.Prelude.{ℕ, ◌+◌, ◌≡◌, List, ⊤, Bool, cond, not, ◌&&◌, ◌||◌, eqb, get_or, Result}
use Rattle.std.proofs.Math.Option.{Option, none, some}
use Rattle.rows.specs.Rows.{Rows, any, before}
use Rattle.igvm_defs.specs.declared.Arch.{Arch}
use Rattle.igvm_defs.specs.declared.Fault.{Fault}
use Rattle.igvm_defs.specs.Refusals.{Told}
use Rattle.initialization_header.specs.declared.IgvmInitializationHeader.{IgvmInitializationHeader}
use Rattle.directive_header.specs.declared.IgvmDirectiveHeader.{IgvmDirectiveHeader}
use Rattle.directive_header.specs.Fields.{kind_number, is_parameter, area_of}
use Rattle.masks.specs.Masks.{shares}
use Rattle.rules.specs.declared.Region.{Region}
use Rattle.rules.specs.Directives.{directive_fault, is_context}
use Rattle.directive_check.specs.declared.AreaName.{AreaName}
use Rattle.directive_check.specs.declared.AreaName.TheVariants.{Allocates, Uses, Inserts, NoArea}

-- the mask of a VTL shares a bit with a mask exactly where a context of that VTL does
abbrev pub HoldsContexts : List ℕ → Rows IgvmDirectiveHeader → Type 0
HoldsContexts contexts xs = (level bits : ℕ) → shares (get_or contexts level 0) bits ≡ any (is_context level bits) xs

-- the region's VP index is not 0, or the mask of its VTL shares no bit with its own
unfoldable pub lacks_context : List ℕ → Region → Bool
lacks_context contexts r = not (eqb r.vp_index 0 && shares (get_or contexts r.vtl 0) r.mask)

-- what a step at row i answers: the row's fault, and the masks with the row's context
pub record DirectiveStepped (arch : Arch) (is : Rows IgvmInitializationHeader) (xs : Rows IgvmDirectiveHeader) (i : ℕ) (told : Result ⊤ Fault) (contexts : List ℕ) : Type 0 where
  pub fault : Told told (directive_fault arch is (before i xs) (xs.row i))
  pub next : HoldsContexts contexts (before (i + 1) xs)

-- ---- the area rule over numbers: how a row of a kind names an area (0 allocates, 1 uses, 2 inserts, 3 names none), and which

unfoldable pub how_named : ℕ → ℕ
how_named kind =
    cond (eqb kind 33) 0
    (cond (is_parameter kind) 1
    (cond (eqb kind 50) 2
    3))

-- the same of a header
abbrev pub how_of : IgvmDirectiveHeader → ℕ
how_of h = how_named (kind_number h)

-- whether a row of this kind names an area
unfoldable pub names_area : ℕ → Bool
names_area kind = eqb kind 33 || is_parameter kind || eqb kind 50

-- 0 where no area is named
abbrev pub area_number : Option ℕ → ℕ
area_number none = 0
area_number (some area) = area

-- ---- a name of an area: how it names one, by the numbers above, and which
abbrev pub how : AreaName → ℕ
how (Allocates area) = 0
how (Uses area) = 1
how (Inserts area) = 2
how NoArea = 3

abbrev pub area_in : AreaName → Option ℕ
area_in (Allocates area) = some area
area_in (Uses area) = some area
area_in (Inserts area) = some area
area_in NoArea = none

-- the header names an area so, and that one
abbrev pub Names : AreaName → IgvmDirectiveHeader → Type 0
Names name h = (how name ≡ how_of h) × (area_in name ≡ area_of h)
