-- When a directive row, from its kind and body, is in order.
use Rattle.std.specs.Prelude.{ℕ, ◌≤◌, Bool, false, cond, ◌&&◌, ◌||◌, List, ◌≡◌, eqb, length, get_or}
use Rattle.rows.specs.Rows.{Rows, any}
use Rattle.le.specs.Le.{byte_at, le_at}
use Rattle.igvm_defs.specs.declared.Arch.{Arch}
use Rattle.masks.specs.Masks.{shares}
use Rattle.initialization_header.specs.declared.IgvmInitializationHeader.{IgvmInitializationHeader}
use Rattle.directive_header.specs.declared.IgvmDirectiveHeader.{IgvmDirectiveHeader}
use Rattle.directive_header.specs.Directives.{directive_of}
use Rattle.rules.specs.Directives.{allocates, inserts, bad_area, inside_table, is_context}
use Rattle.directive_check.specs.Record.{names_area}
use Rattle.directive_body.specs.Body.{BodyInOrder}
use Rattle.area_table.specs.declared.AreaTable.{AreaTable}
use Rattle.area_table.specs.Table.{Knows}

-- the masks of contexts with what a header adds
abbrev pub ContextsNext : List ℕ → IgvmDirectiveHeader → List ℕ → Type 0
ContextsNext contexts h next = (level bits : ℕ) → shares (get_or next level 0) bits ≡ (shares (get_or contexts level 0) bits || is_context level bits h)

-- the body of a VBS context in order, and the masks with its mask
pub record VbsContext (b contexts next : List ℕ) : Type 0 where
  pub long : 5 ≤ length b
  pub level : byte_at b 4 ≤ 2
  pub more : (level bits : ℕ) → shares (get_or next level 0) bits ≡ (shares (get_or contexts level 0) bits || (eqb (byte_at b 4) level && shares (le_at 4 b 0) bits))

-- a row that names no area
pub record PlainRow (arch : Arch) (kind : ℕ) (b contexts next : List ℕ) : Type 0 where
  pub alone : BodyInOrder arch kind b
  pub unnamed : names_area kind ≡ false
  pub context : ContextsNext contexts (directive_of kind b) next

-- ---- areas

-- 0 nothing is known of an area, 1 it is allocated, 2 it was inserted
abbrev pub area_state : Bool → Bool → ℕ
area_state allocated inserted = cond inserted 2 (cond allocated 1 0)

unfoldable pub state_of : Rows IgvmDirectiveHeader → ℕ → ℕ
state_of earlier area = area_state (any (allocates area) earlier) (any (inserts area) earlier)

-- with one header more
unfoldable pub state_after : Rows IgvmDirectiveHeader → IgvmDirectiveHeader → ℕ → ℕ
state_after earlier h area = area_state (any (allocates area) earlier || allocates area h) (any (inserts area) earlier || inserts area h)

-- a row that names an area, after these directive rows, and the table of areas with what they and it tell
pub record AreaRow (arch : Arch) (earlier : Rows IgvmDirectiveHeader) (kind : ℕ) (b : List ℕ) {LINKS NODES : ℕ} (t : AreaTable LINKS NODES) : Type 0 where
  pub alone : BodyInOrder arch kind b
  pub area : bad_area earlier (directive_of kind b) ≡ false
  pub known : Knows t (state_after earlier (directive_of kind b))

-- such a row, also by the page tables of these initialization rows; it is no context
pub record NamedRow (arch : Arch) (is : Rows IgvmInitializationHeader) (earlier : Rows IgvmDirectiveHeader) (kind : ℕ) (b : List ℕ) {LINKS NODES : ℕ} (t : AreaTable LINKS NODES) : Type 0 where
  pub row : AreaRow arch earlier kind b t
  pub table : inside_table is (directive_of kind b) ≡ false
  pub other : (level bits : ℕ) → is_context level bits (directive_of kind b) ≡ false
