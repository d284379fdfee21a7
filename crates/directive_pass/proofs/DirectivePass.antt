-- What the pass over directive rows cites: the rows of a readable sheet, what they tell of areas, and the refusal of the list.
use Rattle.rows.{proofs.Kit.{ℕ, ◌+◌, ◌<◌, ◌≤◌, ◌≡◌, refl, sym, ap, ◌∙◌, true, ◌&&◌, ◌||◌, List, eqb}, specs.Rows.{Rows, any, before}, proofs.BelowLaws.{any_more, any_same_tests}}
use Rattle.std.specs.Prelude.{Result, Ok, Err, MatchResult}
use Rattle.igvm_defs.{specs.declared.Fault.Fault, specs.declared.Refusal.Refusal, specs.Refusals.{fault, no_fault, no_refusal, refuse, is_fault, is_refusal, in_row, first_fault}, proofs.RefusalLaws.{no_fault_lem, row_refusal_lem, or_else_first, or_else_later}}
use Rattle.sheet.{specs.declared.Cursor.Cursor, specs.Head.{limits, head_of, first_directive}, specs.Read.Readable, specs.Table.{row_kind, body_of}, specs.Walk.cursor_at}
use Rattle.initialization_header.specs.declared.IgvmInitializationHeader.{IgvmInitializationHeader}
use Rattle.directive_header.{specs.declared.IgvmDirectiveHeader.IgvmDirectiveHeader, specs.Fields.{area_named}, specs.Directives.directive_of, proofs.DirectiveLaws.area_directive}
use Rattle.sheet_headers.{specs.Headers.sheet_headers, proofs.HeaderLaws.sheet_counts, proofs.ListLaws.{at_directive, directive_header, RowsReached, rows_next, rows_stop, rows_end}}
use Rattle.rules.{specs.Regions.{region_passes, table_holds}, specs.Directives.{allocates, inserts, no_context}, specs.Headers.Headers, specs.Verdict.{directive_faults, no_matching_vp_context, directives_refusal}}
use Rattle.clashes.specs.Clashes.{HoldsTables}
use Rattle.reloc_regions.specs.{declared.RelocRegions.RelocRegions, Regions.entry}
use Rattle.initialization_check.specs.Record.{any_region, HoldsRegions}
use Rattle.directive_check.{specs.declared.AreaName.AreaName, specs.Record.{HoldsContexts, lacks_context, how_named, how, area_in, area_number, Names}, proofs.DirectiveRecordLaws.{lacks_says, how_directive, allocates_says, inserts_says}}

-- ---- areas

-- a name is that of directive row i where it is that of the row's kind and body
pub row_named : (s : List ℕ) (ok : Readable limits s) (c : Cursor) (i : ℕ) (name : AreaName) → c ≡ cursor_at s (first_directive s + i) → i < (head_of s).directives
    → (how name ≡ how_named (row_kind s c.row)) × (area_in name ≡ area_named (row_kind s c.row) (body_of s c.row)) → Names name ((sheet_headers s).directives.row i)
row_named s ok c i name e l (h, a) =
    let list = (at_directive s ok c i e l).1 in
    rw (← directive_header s c.row i (rw e))
    (h ∙ sym (how_directive (row_kind s c.row) list (body_of s c.row)), a ∙ sym (area_directive (row_kind s c.row) list (body_of s c.row)))

-- one row more tells of an area what it says itself
module _ (xs : Rows IgvmDirectiveHeader) (i x : ℕ) (name : AreaName) (named : Names name (xs.row i)) where
  pub allocated_more : any (allocates x) (before (i + 1) xs) ≡ (any (allocates x) (before i xs) || (eqb (how name) 0 && eqb x (area_number (area_in name))))
  allocated_more = rw (any_more i (λ j. allocates x (xs.row j)), allocates_says x (xs.row i), named.0, named.1)

  pub inserted_more : any (inserts x) (before (i + 1) xs) ≡ (any (inserts x) (before i xs) || (eqb (how name) 2 && eqb x (area_number (area_in name))))
  inserted_more = rw (any_more i (λ j. inserts x (xs.row j)), inserts_says x (xs.row i), named.0, named.1)

-- ---- the refusal of the list

module _ (f : Headers) where
  directives_first : (r : Refusal) → first_fault (f.platforms.count + f.initializations.count) f.directives.count (directive_faults f) ≡ r
      → is_refusal r ≡ true → directives_refusal f ≡ r
  unfolding directives_refusal
  directives_first r e t = rw e (or_else_first r (in_row 0 (no_matching_vp_context f)) t)

  -- no row with a fault: the regions' contexts
  pub directives_last : {N : ℕ} (r : RelocRegions N) (contexts : List ℕ) → HoldsRegions r f.initializations → HoldsContexts contexts f.directives
      → first_fault (f.platforms.count + f.initializations.count) f.directives.count (directive_faults f) ≡ no_refusal
      → directives_refusal f ≡ in_row 0 (refuse (any_region (lacks_context contexts) r) (fault 34 0) no_fault)
  unfolding directives_refusal no_matching_vp_context is_refusal
  directives_last r contexts regions holds e =
      let same : any_region (lacks_context contexts) r ≡ any (region_passes (no_context f.directives)) f.initializations =
      any_same_tests r.count (λ i. lacks_context contexts (entry r i)) (λ i. no_context f.directives (entry r i)) (λ i l. lacks_says contexts f.directives (entry r i) holds)
      ∙ regions.same (no_context f.directives)
      in
      rw (same, e) (or_else_later no_refusal (in_row 0 (no_matching_vp_context f)) refl)

-- ---- the pass

-- the record's arrays have the page tables that the record has
pub holds_tables : {N : ℕ} (r : RelocRegions N) (xs : Rows IgvmInitializationHeader) → HoldsRegions r xs → HoldsTables r.mask r.gpa r.size r.page_table r.count xs
unfolding table_holds
holds_tables r xs h mask gpa = h.same (table_holds mask gpa)

-- at the head of the loop: no row before row i, at the cursor, has a fault, and the masks hold their contexts
pub record DirectivesReached (s : List ℕ) (c : Cursor) (masks : List ℕ) (i : ℕ) : Type 0 where
  pub reached : RowsReached s (first_directive s) (head_of s).directives (directive_faults (sheet_headers s)) c i
  pub contexts : HoldsContexts masks (before i (sheet_headers s).directives)

module _ {s : List ℕ} {c : Cursor} {masks : List ℕ} {i : ℕ} (r : DirectivesReached s c masks i) where
  pub reached_header : directive_of (row_kind s c.row) (body_of s c.row) ≡ (sheet_headers s).directives.row i
  reached_header = directive_header s c.row i (rw r.reached.at)

  -- a row with no fault
  pub directive_next : (next : Cursor) (new : List ℕ) → i < (head_of s).directives → directive_faults (sheet_headers s) i ≡ no_fault
      → HoldsContexts new (before (i + 1) (sheet_headers s).directives) → next ≡ cursor_at s (c.row + 1) → DirectivesReached s next new (i + 1)
  directive_next next new l e holds at =
      record {
        reached = rows_next s (first_directive s) (head_of s).directives (directive_faults (sheet_headers s)) c next i r.reached l (rw e no_fault_lem) at;
        contexts = holds;
      }

  told_directives : first_fault ((sheet_headers s).platforms.count + (sheet_headers s).initializations.count) (sheet_headers s).directives.count (directive_faults (sheet_headers s))
      ≡ first_fault (first_directive s) (head_of s).directives (directive_faults (sheet_headers s))
  told_directives = rw ((sheet_counts s).platforms, (sheet_counts s).initializations, (sheet_counts s).directives)

  -- a row with a fault
  pub directives_stop : (f : Fault) → i < (head_of s).directives → (f ≡ directive_faults (sheet_headers s) i) × (is_fault f ≡ true)
      → (in_row (first_directive s + i + 1) f ≡ directives_refusal (sheet_headers s)) × (is_refusal (in_row (first_directive s + i + 1) f) ≡ true)
  directives_stop f l (e, t) =
      let z : is_refusal (in_row (first_directive s + i + 1) f) ≡ true = rw row_refusal_lem t in
      let stop : first_fault (first_directive s) (head_of s).directives (directive_faults (sheet_headers s)) ≡ in_row (first_directive s + i + 1) f
      = rw e (rows_stop s (first_directive s) (head_of s).directives (directive_faults (sheet_headers s)) c i r.reached l (rw (← e) t)) in
      (sym (directives_first (sheet_headers s) _ (told_directives ∙ stop) z), z)

  -- every row passed: the masks hold all contexts, and a region without one is left
  pub directives_end : {N : ℕ} (held : RelocRegions N) → HoldsRegions held (sheet_headers s).initializations → (head_of s).directives ≤ i
      → HoldsContexts masks (sheet_headers s).directives × (directives_refusal (sheet_headers s) ≡ in_row 0 (refuse (any_region (lacks_context masks) held) (fault 34 0) no_fault))
  directives_end held regions l =
      let (e, none) = rows_end s (first_directive s) (head_of s).directives (directive_faults (sheet_headers s)) c i r.reached l in
      let holds : HoldsContexts masks (sheet_headers s).directives = rw (e ∙ sym (sheet_counts s).directives) at r.contexts in
      (holds, directives_last (sheet_headers s) held masks regions holds (told_directives ∙ none))

-- ---- an answer whose error is said of a row

module _ {T : Type 0} (answer : Result T Fault) where
  -- the `?` that follows went on with the value
  pub value_met : {P : T → Type 0} {post : Fault → Type 0} (x : T) → MatchResult answer P post → ((z : T) → P z → x ≡ z) → ((f : Fault) → post f → ⊥) → answer ≡ Ok x
  value_met {P} {post} x m same never = go answer m
    where
      go : (a : Result T Fault) → MatchResult a P post → a ≡ Ok x
      go (Ok z) m = ap (λ (y : T). Ok y) (sym (same z m))
      go (Err f) m = absurd (never f m)

  -- it stopped at the refusal of a fault
  pub fault_met : {P : T → Type 0} {post : Fault → Type 0} (row : ℕ) (e : Refusal) → MatchResult answer P post → ((x : T) → P x → ⊥) → ((f : Fault) → post f → e ≡ in_row row f)
      → (f : Fault) × (answer ≡ Err f) × (e ≡ in_row row f)
  fault_met {P} {post} row e m never said = go answer m
    where
      go : (a : Result T Fault) → MatchResult a P post → (f : Fault) × (a ≡ Err f) × (e ≡ in_row row f)
      go (Ok x) m = absurd (never x m)
      go (Err f) m = (f, refl, said f m)
