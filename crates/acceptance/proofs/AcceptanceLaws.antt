-- Where every row was passed, none of the refusals of rows and headers applies.
use Rattle.rows.{proofs.Kit.{ℕ, ◌+◌, ◌-◌, ◌≤◌, ◌<◌, arith, ◌≡◌, ap, ◌∙◌, Bool, false, List, [], ◌∷◌, length, le-ltb}, specs.Below.any_below, proofs.BelowLaws.none_any}
use Rattle.igvm_defs.{specs.Refusals.{fault, no_fault, refuse, is_fault, is_refusal}, proofs.RefusalLaws.{no_fault_lem, row_refusal_lem, fault_end}}
use Rattle.sheet.{specs.declared.Cursor.Cursor, specs.Head.{limits, head_of, row_count, bodies_at, start_fault, first_directive}, specs.Table.offset_of, specs.Read.{end_fault, rows_refusal}, specs.Walk.ReadTo, proofs.Readable.start_says, proofs.ReadLaws.rows_end}
use Rattle.sheet_headers.{specs.Headers.sheet_headers, proofs.HeaderLaws.sheet_counts}
use Rattle.rules.{specs.Verdict.{directive_faults, platform_faults, initialization_faults, platforms_refusal, directives_refusal}, proofs.Acceptance.{platforms_say, initializations_say, headers_say}}
use Rattle.contexts.specs.Contexts.{any_lacks}
use Rattle.by_start.specs.ByStart.{ByStart}
use Rattle.reloc_regions.specs.declared.RelocRegions.{RelocRegions}
use Rattle.by_start.specs.declared.KeptRegions.{KeptRegions}
use Rattle.initialization_check.specs.Record.{any_region, HoldsRows}
use Rattle.directive_check.{specs.Record.{HoldsContexts, lacks_context}, proofs.DirectiveRecordLaws.holds_no_contexts}
use Rattle.directive_pass.proofs.DirectivePass.{directives_last}
use Rattle.platform_accept.specs.Accepted.{PlatformsAccepted, HoldsCca}
use Rattle.initialization_accept.specs.Accepted.{InitializationsAccepted}
use Rattle.directive_accept.specs.Accepted.{DirectivesAccepted}
use Rattle.acceptance.specs.Accepted.{RowsAccepted, ListsAccepted}

-- the table lies in the sheet
pub table_room : (s : List ℕ) → is_fault (start_fault limits s) ≡ false → bodies_at (head_of s) ≤ length s
table_room s e = ((start_says limits s).0 e).table

-- every row read, and no byte left over
pub rows_read : (s : List ℕ) (c : Cursor) → ReadTo s c → row_count (head_of s) ≤ c.row → length s ≤ c.at → is_refusal (rows_refusal s) ≡ false
unfolding end_fault
rows_read s c r l whole =
    let high = r.high in let e : c.row ≡ row_count (head_of s) = omega arith in
    let at : c.at ≡ offset_of s (row_count (head_of s)) = ap (λ (x : Cursor). x.at) r.at ∙ ap (offset_of s) e in
    let none : is_fault (end_fault s) ≡ false = rw (le-ltb (offset_of s (row_count (head_of s))) (length s) (omega arith)) no_fault_lem in
    rw (rows_end s (rw e at r.passed), row_refusal_lem 0 (end_fault s)) none

-- the platform rows
pub platforms_none : (s : List ℕ) (c : Cursor) (cca : ℕ) → PlatformsAccepted s c cca → (head_of s).platforms ≤ c.row → 0 < (head_of s).platforms
    → (is_refusal (platforms_refusal (sheet_headers s)) ≡ false) × HoldsCca cca (sheet_headers s).platforms
platforms_none s c cca a l p =
    let f = sheet_headers s in let high = a.high in let n = (sheet_counts s).platforms in
    let e : c.row ≡ f.platforms.count = omega arith in
    ((platforms_say f).1 ((none_any f.platforms.count (λ i. is_fault (platform_faults f i))).0 (rw e at a.good), omega arith), rw e at a.holds)

-- the initialization rows
pub initializations_none : (s : List ℕ) {N M : ℕ} (kept : KeptRegions N M) (c : Cursor) → InitializationsAccepted s kept.regions kept.rows kept.order.next c
    → (head_of s).platforms + (head_of s).initializations ≤ c.row → is_refusal (platforms_refusal (sheet_headers s)) ≡ false → ListsAccepted s kept c
initializations_none s kept c a l p =
    let f = sheet_headers s in let high = a.high in let n = (sheet_counts s).initializations in
    let e : c.row - (head_of s).platforms ≡ f.initializations.count = omega arith in
    record {
      read = a.read;
      row = omega arith;
      platforms = p;
      initializations = (initializations_say f).1 ((none_any f.initializations.count (λ i. is_fault (initialization_faults f i))).0 (rw e at a.good));
      holds = rw e at a.holds;
      rows = rw e at a.rows;
      order = a.order;
    }

-- the directive rows, and 34
pub all_none : (s : List ℕ) {N M : ℕ} (kept : KeptRegions N M) (contexts : List ℕ) (from c : Cursor)
    → ListsAccepted s kept from → DirectivesAccepted s c contexts → row_count (head_of s) ≤ c.row → length s ≤ c.at → length contexts ≡ 3
    → any_lacks kept.regions.mask kept.regions.vp_index kept.regions.vtl kept.regions.count contexts ≡ false → RowsAccepted s kept.regions kept.rows kept.order.next contexts
unfolding lacks_context
all_none s kept contexts from c lists a l whole three lacks =
    let f = sheet_headers s in let held = kept.regions in let high = a.read.high in let low = a.low in
    let k = (sheet_counts s).directives in
    let e : c.row - first_directive s ≡ f.directives.count = omega arith in
    let contexts-held : HoldsContexts contexts f.directives = rw e at a.holds in
    let none : is_fault (refuse (any_region (lacks_context contexts) held) (fault 34 0) no_fault) ≡ false = rw lacks no_fault_lem in
    let directives : is_refusal (directives_refusal f) ≡ false =
    rw (directives_last f held contexts lists.holds contexts-held (fault_end (f.platforms.count + f.initializations.count) f.directives.count (directive_faults f) (rw e at a.good))) (row_refusal_lem 0 (refuse (any_region (lacks_context contexts) held) (fault 34 0) no_fault) ∙ none)
    in
    record {
      read = rows_read s c a.read l whole;
      headers = (headers_say f).1 (lists.platforms, lists.initializations, directives);
      kept = record { regions = lists.holds; rows = lists.rows; order = lists.order; masks = contexts-held; vtls = three };
    }

-- before the first directive row nothing is passed
pub none_passed : (s : List ℕ) (c : Cursor) → ReadTo s c → c.row ≤ first_directive s → first_directive s ≤ c.row → DirectivesAccepted s c (0 ∷ 0 ∷ 0 ∷ [])
unfolding any_below
none_passed s c read high low =
    let z : c.row - first_directive s ≡ 0 = omega arith in
    record { read = read; low = low; good = rw z; holds = rw z (holds_no_contexts (sheet_headers s).directives) }
