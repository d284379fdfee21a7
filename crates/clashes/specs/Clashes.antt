-- Tests of a region, or of an address, against the first n regions of some arrays.
use Rattle.std.specs.Prelude.{ℕ, Bool, false, ◌&&◌, List, ◌≡◌, get_or}
use Rattle.rows.specs.Below.{any_below}
use Rattle.rows.specs.Rows.{Rows, any}
use Rattle.masks.specs.Masks.{shares}
use Rattle.addresses.specs.Addresses.{contains, meets}
use Rattle.initialization_header.specs.declared.IgvmInitializationHeader.{IgvmInitializationHeader}
use Rattle.rules.specs.declared.Region.{Region}
use Rattle.rules.specs.Regions.{region_passes, table_holds}

-- some region is a page table, as r is, and shares a bit with it
abbrev pub any_tables_share : Region → List ℕ → List Bool → ℕ → Bool
any_tables_share r masks tables n = any_below n (λ i. r.page_table && get_or tables i false && shares r.mask (get_or masks i 0))

-- some region shares a bit with r, and an address
abbrev pub any_overlap : Region → List ℕ → List ℕ → List ℕ → ℕ → Bool
any_overlap r masks gpas sizes n = any_below n (λ i. shares r.mask (get_or masks i 0) && meets r.gpa r.size (get_or gpas i 0) (get_or sizes i 0))

-- some region is a page table, shares a bit with the mask and contains the address
abbrev pub any_table_holds : ℕ → ℕ → List ℕ → List ℕ → List ℕ → List Bool → ℕ → Bool
any_table_holds mask gpa masks gpas sizes tables n =
    any_below n (λ i. get_or tables i false && shares (get_or masks i 0) mask && contains (get_or gpas i 0) (get_or sizes i 0) gpa)

-- the first n regions of the arrays have the page tables of the rows
abbrev pub HoldsTables : List ℕ → List ℕ → List ℕ → List Bool → ℕ → Rows IgvmInitializationHeader → Type 0
HoldsTables masks gpas sizes tables n xs = (mask gpa : ℕ) → any_table_holds mask gpa masks gpas sizes tables n ≡ any (region_passes (table_holds mask gpa)) xs
