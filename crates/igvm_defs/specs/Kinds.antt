-- The table of kinds: each kind's list, the least length of its body, and whether that length is exact; where it is not, opaque bytes may follow.
use Rattle.std.specs.Prelude.{ℕ, Bool, true, false, cond, ◌&&◌, List, [], ◌∷◌, leb, eqb}
use Rattle.igvm_defs.specs.declared.Kind as declared
use Rattle.igvm_defs.specs.declared.RowList.{RowList}
use Rattle.igvm_defs.specs.declared.RowList.TheVariants.{NoList, Platform, Initialization, Directive}

-- what the table says of a kind
pub record Kind : Type 0 where
  pub list : ℕ
  pub least : ℕ
  pub exact : Bool

-- the lists, by number
abbrev pub platform_list : ℕ
platform_list = 1

abbrev pub initialization_list : ℕ
initialization_list = 2

abbrev pub directive_list : ℕ
directive_list = 3

-- the number of a list; 0 where it is none
abbrev pub list_number : RowList → ℕ
list_number NoList = 0
list_number Platform = platform_list
list_number Initialization = initialization_list
list_number Directive = directive_list

-- what an entry of the code's table says
unfoldable pub kind_says : declared.Kind → Kind
kind_says e = record { list = list_number e.list; least = e.least; exact = e.exact }

-- the entry of a kind of no list
abbrev pub no_entry : declared.Kind
no_entry = record { list = NoList; least = 0; exact = false }

-- the kinds first .. last of the table
pub record Span : Type 0 where
  pub first : ℕ
  pub last : ℕ
  pub kind : Kind

abbrev pub span : ℕ → ℕ → ℕ → ℕ → Bool → Span
span first last list least exact = record { first = first; last = last; kind = record { list = list; least = least; exact = exact } }

-- a kind of no list
abbrev pub no_kind : Kind
no_kind = record { list = 0; least = 0; exact = false }

unfoldable pub spans : List Span
spans =
    span 1 1 platform_list 16 true  -- SupportedPlatform
    ∷ span 16 16 initialization_list 12 true  -- GuestPolicy
    ∷ span 17 17 initialization_list 22 true  -- CcaPolicy
    ∷ span 18 18 initialization_list 48 true  -- RelocatableRegion
    ∷ span 19 19 initialization_list 31 true  -- PageTableRelocationRegion
    ∷ span 32 32 directive_list 18 false  -- PageData
    ∷ span 33 33 directive_list 12 false  -- ParameterArea
    ∷ span 34 43 directive_list 8 true  -- VpCount .. DeviceTree
    ∷ span 44 44 directive_list 17 true  -- RequiredMemory
    ∷ span 45 45 directive_list 14 false  -- SnpVpContext
    ∷ span 46 46 directive_list 6 false  -- X64NativeVpContext
    ∷ span 47 48 directive_list 5 false  -- X64VbsVpContext, AArch64VbsVpContext
    ∷ span 49 49 directive_list 6 false  -- AArch64CcaVpContext
    ∷ span 50 51 directive_list 16 true  -- ParameterInsert, ErrorRange
    ∷ span 52 53 directive_list 4 false  -- SnpIdBlock, VbsMeasurement
    ∷ []

abbrev pub lookup : List Span → ℕ → Kind
lookup [] k = no_kind
lookup (x ∷ xs) k = cond (leb x.first k && leb k x.last) x.kind (lookup xs k)

unfoldable pub kind_of : ℕ → Kind
kind_of k = lookup spans k

-- how many bytes at a body's start are fields; page data, initial data and opaque bytes come after them
unfoldable pub fields : ℕ → ℕ
fields kind = cond (eqb kind 17) 20 (kind_of kind).least

-- a body length that the kind allows
unfoldable pub length_ok : Kind → ℕ → Bool
length_ok t n = cond t.exact (eqb n t.least) (leb t.least n)
