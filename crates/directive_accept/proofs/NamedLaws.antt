-- Rows in order that name an area, and the rows with a table of areas.
use Rattle.rows.{proofs.Kit.{ℕ, ◌-◌, ◌≤◌, ◌<◌, arith, ◌≡◌, refl, sym, ◌∙◌, false, or-false, List, [], ◌∷◌, length, get_or, take, drop}, specs.Below.any_below, specs.Rows.{before}}
use Rattle.masks.specs.Masks.{shares}
use Rattle.sheet.{specs.declared.Cursor.Cursor, specs.Head.{head_of, row_count, first_directive}, specs.Table.{row_kind, body_of}, specs.Walk.ReadTo}
use Rattle.sheet_reader.{specs.declared.SheetRow.SheetRow, specs.Reading.cursor_after, proofs.ReaderLaws.{Found, body_found}}
use Rattle.directive_header.{specs.declared.IgvmDirectiveHeader.IgvmDirectiveHeader, specs.Directives.directive_of}
use Rattle.sheet_headers.specs.Headers.{sheet_headers}
use Rattle.rules.specs.Directives.{is_context}
use Rattle.directive_check.proofs.DirectiveRecordLaws.{holds_no_contexts}
use Rattle.area_table.{specs.declared.AreaTable.AreaTable, specs.Table.Knows, proofs.AreaTableLaws.holds_same}
use Rattle.directive_row.specs.Row.{NamedRow, ContextsNext, state_of}
use Rattle.directive_accept.specs.Accepted.{DirectivesAccepted, NamedAccepted, PlainAccepted, PlainPassed, AreasPassed, state_before}
use Rattle.directive_accept.proofs.AcceptedLaws.{read_row_lem, accepted_more, state_more}

-- a header that is no context leaves the masks as they are
pub contexts_stay : (contexts : List ℕ) (h : IgvmDirectiveHeader) → ((level bits : ℕ) → is_context level bits h ≡ false) → ContextsNext contexts h contexts
contexts_stay contexts h other level bits = rw (other level bits) (sym (or-false (shares (get_or contexts level 0) bits)))

-- ---- rows that name an area

pub areas_none : (s : List ℕ) (c : Cursor) {LINKS NODES : ℕ} (t : AreaTable LINKS NODES) → ReadTo s c → first_directive s ≤ c.row → Knows t (state_before s c.row)
    → AreasPassed s c c t
areas_none s c t r d h = record { low = omega arith; first = d; read = r; accepted = λ contexts a. a; known = h }

-- the table may change, as long as it has the same
pub areas_kept : (s : List ℕ) (c d : Cursor) {LINKS NODES : ℕ} (t next : AreaTable LINKS NODES) → AreasPassed s c d t
    → Knows next (state_before s d.row) → AreasPassed s c d next
areas_kept s c d t next a h = record { low = a.low; first = a.first; read = a.read; accepted = a.accepted; known = h }

-- a row in order
pub areas_next : (s : List ℕ) (c d : Cursor) {LINKS NODES : ℕ} (t next : AreaTable LINKS NODES) → AreasPassed s c d t
    → d.row < row_count (head_of s) → (r : SheetRow) → Found s d.row d.at r → (body : List ℕ) → body ≡ take r.length (drop d.at s)
    → NamedRow (sheet_headers s).arch (sheet_headers s).initializations (before (d.row - first_directive s) (sheet_headers s).directives) r.kind body next
    → AreasPassed s c (cursor_after d r) next
areas_next s c d t next a l r f body part row =
    let n : NamedRow (sheet_headers s).arch (sheet_headers s).initializations (before (d.row - first_directive s) (sheet_headers s).directives) (row_kind s d.row) (body_of s d.row) next =
    rw (f.kind, part ∙ body_found s d a.read r f) at row
    in
    let low = a.low in let first = a.first in
    record {
      low = omega arith;
      first = omega arith;
      read = read_row_lem s d a.read r f l first (sheet_headers s).arch n.row.alone;
      accepted =
          λ contexts b.
          accepted_more s d a.read r f l contexts contexts (a.accepted contexts b) n.row.alone n.row.area n.table
          (contexts_stay contexts (directive_of (row_kind s d.row) (body_of s d.row)) n.other);
      known = holds_same n.row.known (λ x. sym (state_more s d.row first x));
    }

-- rows that name an area, and rows behind them that name none
pub named_turn : (s : List ℕ) (c d e : Cursor) (next : List ℕ) {LINKS NODES : ℕ} (t : AreaTable LINKS NODES) → AreasPassed s c d t
    → PlainPassed s d e next → NamedAccepted s e next t
named_turn s c d e next t a p =
    record { rows = p.rows; known = holds_same a.known (λ x. sym (p.areas x)); masks = p.masks }

-- ---- where the pass begins

-- with an empty table
pub named_first : (s : List ℕ) (c : Cursor) (contexts : List ℕ) {LINKS NODES : ℕ} (t : AreaTable LINKS NODES) → Knows t (λ _. 0) → PlainAccepted s c contexts
    → NamedAccepted s c contexts t
named_first s c contexts t none a = record { rows = a.rows; known = holds_same none (λ x. sym (a.areas x)); masks = a.masks }

module _ (s : List ℕ) (c : Cursor) (e : c.row ≡ first_directive s) where
  none_before : c.row - first_directive s ≡ 0
  none_before = omega arith

  pub rows_first : (contexts : List ℕ) → ReadTo s c → contexts ≡ (0 ∷ 0 ∷ 0 ∷ []) → DirectivesAccepted s c contexts × (length contexts ≡ 3)
  unfolding any_below
  rows_first contexts r z =
      rw z
      (record { read = r; low = omega arith; good = rw none_before; holds = rw none_before (holds_no_contexts (sheet_headers s).directives) }, refl)

  -- no row before the first names an area
  state_first : (area : ℕ) → state_before s c.row area ≡ 0
  unfolding any_below state_of
  state_first area = rw none_before

  pub none_first : (contexts : List ℕ) → ReadTo s c → contexts ≡ (0 ∷ 0 ∷ 0 ∷ []) → PlainAccepted s c contexts
  none_first contexts r z = let (rows, masks) = rows_first contexts r z in record { rows = rows; areas = state_first; masks = masks }

  pub plain_first : (d : Cursor) (contexts : List ℕ) → PlainPassed s c d contexts → PlainAccepted s d contexts
  plain_first d contexts p = record { rows = p.rows; areas = λ area. p.areas area ∙ state_first area; masks = p.masks }
