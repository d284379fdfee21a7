-- Demand 3's premise, on bytes. Run A takes a readable sheet; run B takes any sheet with the same head and headers and no byte left over, whatever
-- order each list comes in and whatever its page, initial and opaque bytes hold at equal lengths; only platform headers of one mask, and
-- directives naming one parameter area, keep their order. Rows are numbered from 0 here, across the lists.
use Rattle.std.specs.Prelude.{ℕ, ◌+◌, ◌<◌, ◌≡◌, List, length, take}
use Rattle.std.proofs.Math.Option.{some}
use Rattle.rows.specs.Paired.{Free}
use Rattle.le.specs.Le.{le_at}
use Rattle.igvm_defs.specs.Kinds.{fields}
use Rattle.sheet.specs.Head.{head_of, row_count}
use Rattle.sheet.specs.Table.{row_kind, row_length, offset_of, body_of}
use Rattle.directive_header.specs.Fields.{area_named}

-- Row k of a and row m of b have the same kind, body length and fields; only the data of 32, the initial data of 33 and opaque bytes may differ.
pub record Alike (a b : List ℕ) (k m : ℕ) : Type 0 where
  pub kind : row_kind b m ≡ row_kind a k
  pub body_length : row_length b m ≡ row_length a k
  pub body_fields : take (fields (row_kind a k)) (body_of b m) ≡ take (fields (row_kind a k)) (body_of a k)

-- The rows of one list, `count` rows from row `first` on, pair off one to one: row first + i of a with row first + to i of b.
-- `Tied` says which rows of a stand in the same order in both.
pub record PairedRows (a b : List ℕ) (Tied : ℕ → ℕ → Type 0) (first count : ℕ) : Type 0 where
  pub to : ℕ → ℕ
  pub from : ℕ → ℕ
  -- every row of either list is in a pair
  pub to_below : (i : ℕ) → i < count → to i < count
  pub from_below : (j : ℕ) → j < count → from j < count
  -- and in one only
  pub from_to : (i : ℕ) → i < count → from (to i) ≡ i
  pub to_from : (j : ℕ) → j < count → to (from j) ≡ j
  -- paired rows are alike
  pub alike : (i : ℕ) → i < count → Alike a b (first + i) (first + to i)
  -- tied rows keep their order
  pub keeps : (i j : ℕ) → i < j → j < count → Tied (first + i) (first + j) → to i < to j

-- platform rows of equal mask
abbrev pub OneMask : List ℕ → ℕ → ℕ → Type 0
OneMask s k m = le_at 4 (body_of s k) 0 ≡ le_at 4 (body_of s m) 0

-- directive rows naming one area: kinds 33 to 43 and 50 with equal area field
abbrev pub OneArea : List ℕ → ℕ → ℕ → Type 0
OneArea s k m = (area : ℕ) × (area_named (row_kind s k) (body_of s k) ≡ some area) × (area_named (row_kind s m) (body_of s m) ≡ some area)

pub record Reordered (a b : List ℕ) : Type 0 where
  -- the same head
  pub head : take 16 b ≡ take 16 a
  -- no byte left over
  pub whole : offset_of b (row_count (head_of b)) ≡ length b
  -- The rows pair off within each list. Platform rows of equal mask stand in the same order, and so do directive rows naming one area.
  pub platforms : PairedRows a b (OneMask a) 0 (head_of a).platforms
  pub initializations : PairedRows a b Free (head_of a).platforms (head_of a).initializations
  pub directives : PairedRows a b (OneArea a) ((head_of a).platforms + (head_of a).initializations) (head_of a).directives
