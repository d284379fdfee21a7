-- One row more among the directive rows that are in order.
use Rattle.rows.{proofs.Kit.{ℕ, ◌+◌, ◌-◌, ◌≤◌, ◌<◌, arith, ◌≡◌, refl, sym, ◌∙◌, Bool, true, false, ◌&&◌, ◌||◌, or-false, none, List, [], eqb, length, take, drop}, specs.Rows.{Rows, any, before}, proofs.Bools.or_false_parts, proofs.BelowLaws.any_more}
use Rattle.igvm_defs.{specs.declared.Arch.Arch, specs.Kinds.{kind_of, directive_list}, specs.Refusals.is_fault}
use Rattle.sheet.{specs.declared.Cursor.Cursor, specs.Head.{head_of, row_count, first_directive}, specs.Table.{row_kind, row_length, body_of, offset_of}, specs.Walk.ReadTo, proofs.Readable.{RowOk, directive_list_lem, body_length_lem}}
use Rattle.sheet_reader.{specs.declared.SheetRow.SheetRow, specs.Reading.cursor_after, proofs.ReaderLaws.{Found, room_row, body_found, read_after}}
use Rattle.initialization_header.specs.declared.IgvmInitializationHeader.{IgvmInitializationHeader}
use Rattle.directive_header.{specs.declared.IgvmDirectiveHeader.IgvmDirectiveHeader, specs.Directives.directive_of, specs.Fields.{kind_number, area_of, is_parameter}, proofs.DirectiveLaws.{kind_directive, area_directive}}
use Rattle.sheet_headers.{specs.Headers.sheet_headers, proofs.ListLaws.directive_header}
use Rattle.rules.{specs.Directives.{allocates, inserts, bad_area, inside_table}, specs.Verdict.directive_faults, proofs.Acceptance.directive_says}
use Rattle.directive_check.{specs.Record.names_area, proofs.DirectiveRecordLaws.{holds_next, names_no_area}}
use Rattle.directive_body.specs.Body.{BodyInOrder}
use Rattle.directive_row.{specs.Row.{ContextsNext, PlainRow, state_of, state_after}, proofs.PlainLaws.page_plain}
use Rattle.directive_accept.specs.Accepted.{DirectivesAccepted, state_before, Onward, PlainPassed}

-- ---- a row that names no area

and_no : (b : Bool) → (b && false) ≡ false
and_no true = refl
and_no false = refl

module _ (kind : ℕ) (b : List ℕ) (list : (kind_of kind).list ≡ directive_list) (names : names_area kind ≡ false) where
  no_area : area_of (directive_of kind b) ≡ none
  no_area = area_directive kind list b ∙ names_no_area kind names b

  pub unnamed_area : (earlier : Rows IgvmDirectiveHeader) → bad_area earlier (directive_of kind b) ≡ false
  unfolding bad_area
  unnamed_area earlier = rw no_area

  allocates_none : (area : ℕ) → allocates area (directive_of kind b) ≡ false
  unfolding allocates
  allocates_none area = rw no_area (and_no (eqb (kind_number (directive_of kind b)) 33))

  inserts_none : (area : ℕ) → inserts area (directive_of kind b) ≡ false
  unfolding inserts
  inserts_none area = rw no_area (and_no (eqb (kind_number (directive_of kind b)) 50))

  pub unnamed_state : (earlier : Rows IgvmDirectiveHeader) (area : ℕ) → state_after earlier (directive_of kind b) area ≡ state_of earlier area
  unfolding state_after state_of
  unnamed_state earlier area = rw (allocates_none area, inserts_none area, or-false (any (allocates area) earlier), or-false (any (inserts area) earlier))

  pub unnamed_table : (is : Rows IgvmInitializationHeader) → inside_table is (directive_of kind b) ≡ false
  unfolding names_area
  unnamed_table is = rw (kind_directive kind list b, (or_false_parts (eqb kind 33 || is_parameter kind) (eqb kind 50) names).1)

-- ---- one row more

module _ (s : List ℕ) (k : ℕ) (d : first_directive s ≤ k) where
  row_header : directive_of (row_kind s k) (body_of s k) ≡ (sheet_headers s).directives.row (k - first_directive s)
  row_header = directive_header s k (k - first_directive s) (omega arith)

  one_more : k + 1 - first_directive s ≡ (k - first_directive s) + 1
  one_more = omega arith

  -- what is known of an area with row k
  pub state_more : (area : ℕ)
      → state_before s (k + 1) area ≡ state_after (before (k - first_directive s) (sheet_headers s).directives) (directive_of (row_kind s k) (body_of s k)) area
  unfolding state_of state_after
  state_more area =
      rw (one_more, any_more (k - first_directive s) (λ j. allocates area ((sheet_headers s).directives.row j)), any_more (k - first_directive s) (λ j. inserts area ((sheet_headers s).directives.row j)), row_header)

  pub row_ok : (arch : Arch) → offset_of s k + row_length s k ≤ length s → BodyInOrder arch (row_kind s k) (body_of s k) → RowOk s k
  row_ok arch room alone =
      record {
        list = alone.list ∙ sym (directive_list_lem (head_of s) k d);
        long = rw (body_length_lem s k room) at alone.long;
        room = room;
        codes = alone.codes;
      }

module _ (s : List ℕ) (c : Cursor) (read : ReadTo s c) (r : SheetRow) (f : Found s c.row c.at r) (l : c.row < row_count (head_of s)) where
  pub read_row_lem : first_directive s ≤ c.row → (arch : Arch) → BodyInOrder arch (row_kind s c.row) (body_of s c.row) → ReadTo s (cursor_after c r)
  read_row_lem d arch alone = read_after s c read r f l (row_ok s c.row d arch (room_row s c read r f) alone)

  pub accepted_more : (contexts next : List ℕ) → DirectivesAccepted s c contexts → BodyInOrder (sheet_headers s).arch (row_kind s c.row) (body_of s c.row)
      → bad_area (before (c.row - first_directive s) (sheet_headers s).directives) (directive_of (row_kind s c.row) (body_of s c.row)) ≡ false
      → inside_table (sheet_headers s).initializations (directive_of (row_kind s c.row) (body_of s c.row)) ≡ false
      → ContextsNext contexts (directive_of (row_kind s c.row) (body_of s c.row)) next
      → DirectivesAccepted s (cursor_after c r) next
  accepted_more contexts next a alone area table more =
      let i = c.row - first_directive s in let g = sheet_headers s in let h = row_header s c.row a.low in
      let none : is_fault (directive_faults g i) ≡ false =
      (directive_says g.arch g.initializations (before i g.directives) (g.directives.row i)).1 (rw h at alone.own, rw h at area, rw h at table)
      in
      record {
        read = read_row_lem a.low g.arch alone;
        low = omega arith;
        good = rw (one_more s c.row a.low, any_more i (λ j. is_fault (directive_faults g j)), a.good, none);
        holds = rw (one_more s c.row a.low) (holds_next contexts next g.directives i (rw h at more) a.holds);
      }

-- ---- rows that name no area

module _ (s : List ℕ) (c : Cursor) (read : ReadTo s c) (r : SheetRow) (f : Found s c.row c.at r) (l : c.row < row_count (head_of s)) where
  accepted_plain : (contexts next : List ℕ) → PlainRow (sheet_headers s).arch (row_kind s c.row) (body_of s c.row) contexts next
      → DirectivesAccepted s c contexts → DirectivesAccepted s (cursor_after c r) next
  accepted_plain contexts next p a =
      let list = p.alone.list in
      accepted_more s c read r f l contexts next a p.alone
      (unnamed_area (row_kind s c.row) (body_of s c.row) list p.unnamed (before (c.row - first_directive s) (sheet_headers s).directives))
      (unnamed_table (row_kind s c.row) (body_of s c.row) list p.unnamed (sheet_headers s).initializations) p.context

  state_plain : first_directive s ≤ c.row → {contexts next : List ℕ} → PlainRow (sheet_headers s).arch (row_kind s c.row) (body_of s c.row) contexts next
      → (area : ℕ) → state_before s (c.row + 1) area ≡ state_before s c.row area
  state_plain d p area =
      state_more s c.row d area
      ∙ unnamed_state (row_kind s c.row) (body_of s c.row) p.alone.list p.unnamed (before (c.row - first_directive s) (sheet_headers s).directives) area

  plain_more : (from : Cursor) (contexts next : List ℕ) → PlainPassed s from c contexts
      → PlainRow (sheet_headers s).arch (row_kind s c.row) (body_of s c.row) contexts next → length next ≡ 3 → PlainPassed s from (cursor_after c r) next
  plain_more from contexts next a p n =
      let low = a.low in
      record {
        low = omega arith;
        rows = accepted_plain contexts next p a.rows;
        areas = λ area. state_plain a.rows.low p area ∙ a.areas area;
        masks = n;
      }

pub onward_none : (s : List ℕ) (c : Cursor) → ReadTo s c → first_directive s ≤ c.row → Onward s c c
onward_none s c r d = record { low = omega arith; first = d; read = r; accepted = λ contexts a. a; areas = λ area. refl }

pub plain_none : (s : List ℕ) (c : Cursor) (contexts : List ℕ) → DirectivesAccepted s c contexts → length contexts ≡ 3 → PlainPassed s c c contexts
plain_none s c contexts a n = record { low = omega arith; rows = a; areas = λ area. refl; masks = n }

pub plain_onward : (s : List ℕ) (from c d : Cursor) (contexts : List ℕ) → PlainPassed s from c contexts → Onward s c d → PlainPassed s from d contexts
plain_onward s from c d contexts a o =
    let low = a.low in let more = o.low in
    record { low = omega arith; rows = o.accepted contexts a.rows; areas = λ area. o.areas area ∙ a.areas area; masks = a.masks }

-- a page in order
pub onward_page : (s : List ℕ) (c d : Cursor) → Onward s c d → d.row < row_count (head_of s) → (r : SheetRow) → Found s d.row d.at r → r.kind ≡ 32
    → (body : List ℕ) → body ≡ take r.length (drop d.at s) → ((arch : Arch) → BodyInOrder arch 32 body) → Onward s c (cursor_after d r)
onward_page s c d o l r f page body part alone =
    let q : body ≡ body_of s d.row = part ∙ body_found s d o.read r f in
    let p : (contexts : List ℕ) → PlainRow (sheet_headers s).arch (row_kind s d.row) (body_of s d.row) contexts contexts =
    λ contexts. page_plain (sheet_headers s).arch (row_kind s d.row) (body_of s d.row) contexts (rw (← f.kind) page) (rw q at (alone (sheet_headers s).arch))
    in
    let low = o.low in let first = o.first in
    record {
      low = omega arith;
      first = omega arith;
      read = read_row_lem s d o.read r f l first (sheet_headers s).arch (p []).alone;
      accepted = λ contexts a. accepted_plain s d o.read r f l contexts contexts (p contexts) (o.accepted contexts a);
      areas = λ area. state_plain s d o.read r f l first (p []) area ∙ o.areas area;
    }

-- a row in order that names no area
pub plain_next : (s : List ℕ) (from c : Cursor) (contexts next : List ℕ) → PlainPassed s from c contexts → c.row < row_count (head_of s)
    → (r : SheetRow) → Found s c.row c.at r → (body : List ℕ) → body ≡ take r.length (drop c.at s)
    → PlainRow (sheet_headers s).arch r.kind body contexts next → length next ≡ 3 → PlainPassed s from (cursor_after c r) next
plain_next s from c contexts next a l r f body part row n =
    plain_more s c a.rows.read r f l from contexts next a (rw (f.kind, part ∙ body_found s c a.rows.read r f) at row) n
