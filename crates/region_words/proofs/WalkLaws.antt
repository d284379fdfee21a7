-- A walk over the initialization rows: where it starts, and what a turn keeps.
use Rattle.std.specs.Prelude.{Some, None, is_none}
use Rattle.std.specs.Prelude as rust
use Rattle.rows.{proofs.Kit.{◌≡◌, refl, sym, ap, ◌∙◌, true, cond, ◌&&◌, List, ℕ, ◌+◌, ◌*◌, ◌≤◌, ◌<◌, add-zero, arith, length}, specs.Rows.before, specs.Below.sum_below}
use Rattle.le.specs.Le.{byte_at}
use Rattle.lent.{specs.Lent.{bytes_put, row_put, rows_put}, proofs.LentLaws.{rows_none, rows_length, rows_copied}}
use Rattle.sheet.{specs.declared.Cursor.Cursor, specs.declared.SheetHead.SheetHead, specs.Head.{limits, head_of}, specs.Table.{row_kind, body_of}, specs.Read.Readable, specs.Walk.cursor_at}
use Rattle.initialization_header.specs.Initializations.{initialization_of}
use Rattle.rules.specs.Relocations.{is_relocatable, is_page_table, relocatable_of, region_count}
use Rattle.answers.specs.Relocations.{sheet_initializations, region_words}
use Rattle.regions.{proofs.FoundLaws.{regions_more, regions_few}, proofs.TurnLaws.{Turn, turn_at, all_rows_lem}}
use Rattle.region_words.proofs.{WordLaws.{words_at, number_room, words_more}, TableLaws.{TableRow, table_none, table_next}}

-- the cursor stands behind the first i rows; their regions are counted, their words stand in front, and t is the row of their page table
pub record Walked (s : List ℕ) (given : ℕ) (lent b : List ℕ) (c : Cursor) (t : rust.Option ℕ) (count i : ℕ) : Type 0 where
  pub at : c ≡ cursor_at s ((head_of s).platforms + i)
  pub counted : count ≡ region_count (before i (sheet_initializations s)) given
  pub words : b ≡ rows_put (region_count (before i (sheet_initializations s)) given) (words_at (sheet_initializations s) given) lent
  pub table : TableRow s given i t

pub walk_none : (s : List ℕ) (given : ℕ) (lent : List ℕ) (head : SheetHead) → head ≡ head_of s → (c : Cursor) → c ≡ cursor_at s head.platforms → Walked s given lent lent c None 0 0
unfolding region_count sum_below
walk_none s given lent head e c p = record { at = rw (p, e, add-zero); counted = refl; words = sym (rows_none _ _); table = table_none s given }

module _ {s : List ℕ} {given : ℕ} {lent b : List ℕ} {c : Cursor} {t : rust.Option ℕ} {count i : ℕ} (w : Walked s given lent b c t count i) where
  pub lent_length : length b ≡ length lent
  lent_length = ap length w.words ∙ rows_length _ _ _

  -- at a row
  module _ (head : SheetHead) (e : head ≡ head_of s) (ok : Readable limits s) (l : i < head.initializations) where
    pub walk_at : Turn s c i
    walk_at = turn_at s head e ok c i w.at l

    -- there is room for its words
    pub walk_room : 64 * region_count (sheet_initializations s) given ≤ length lent
        → is_relocatable given (initialization_of (row_kind s c.row) (body_of s c.row)) ≡ true → 64 * count + 64 ≤ length b
    walk_room room m =
        let a = walk_at in
        let r = number_room (sheet_initializations s) given i a.within (rw a.header at m) in
        let q = w.counted in let n = lent_length in
        omega arith

    pub walk_few : count ≤ 64
    walk_few = let a = walk_at.few in let q = w.counted in let n = regions_few (sheet_initializations s) given i in omega arith

    -- a turn
    pub walk_next : (after : List ℕ) (next : Cursor) (table : rust.Option ℕ) (many : ℕ) → next ≡ cursor_at s (c.row + 1)
        → table ≡ cond (is_none t && is_page_table given (initialization_of (row_kind s c.row) (body_of s c.row))) (Some c.row) t
        → many ≡ count + cond (is_relocatable given (initialization_of (row_kind s c.row) (body_of s c.row))) 1 0
        → after ≡ cond (is_relocatable given (initialization_of (row_kind s c.row) (body_of s c.row)))
        (row_put count (region_words (relocatable_of (initialization_of (row_kind s c.row) (body_of s c.row)))) b) b
        → Walked s given lent after next table many (i + 1)
    walk_next after next table many en et em ea =
        let xs = sheet_initializations s in let a = walk_at in let q : c.row ≡ (head_of s).platforms + i = rw w.at in
        record {
          at = en ∙ a.next;
          counted = rw (regions_more xs given i, ← w.counted, ← a.header) em;
          words = rw (w.counted, w.words, a.header) at ea ∙ words_more xs given i lent a.within;
          table = rw et (table_next s given i c.row t w.table q a.header);
        }

-- ---- words that were collected, copied to those lent

-- a mask has no more regions than there are initialization rows
pub regions_within : (s : List ℕ) (given n : ℕ) → (head_of s).initializations ≤ n → region_count (sheet_initializations s) given ≤ n
regions_within s given n h =
    let k = rw (all_rows_lem s (head_of s) refl (head_of s).initializations (omega arith)) at (regions_few (sheet_initializations s) given (head_of s).initializations) in
    omega (arith, k)

pub copied : (count n : ℕ) (row : ℕ → List ℕ) (z held b after : List ℕ) → 64 * count ≤ length z → held ≡ rows_put count row z → n ≡ count
    → after ≡ bytes_put 0 (64 * n) (λ j. byte_at held j) b → after ≡ rows_put count row b
copied count n row z held b after room h k e = rw (h, k) at e ∙ rows_copied count row z b room
