-- What is known of a sheet where a call is not refused.
use Rattle.rows.{proofs.Kit.{◌≡◌, refl, ◌∙◌, Bool, true, false, cond, false≢true, not, not-false, List, ◌≢◌, Option, none, some, ℕ, ◌*◌, ◌/◌, ◌≤◌, ◌<◌, eqb, ltb, ltb-false, ltb-true, le-ltb, eqb-false, ne_eqb, arith}, specs.Below.nth_below, specs.Rows.{Rows, row_at}, proofs.Bools.and_parts, proofs.BelowLaws.{nth_says, nth_none}}
use Rattle.igvm_defs.{specs.declared.Refusal.Refusal, specs.Refusals.{no_fault, no_refusal, is_fault, is_refusal, in_row}, specs.Revision.page_size_of, proofs.RefusalLaws.{no_fault_lem, row_refusal_lem, or_else_later, no_fault_row}}
use Rattle.sheet.{specs.Head.{Limits, head_of, revision_of}, specs.Read.{Readable, sheet_refusal}, proofs.Readable.sheet_says}
use Rattle.sheet_headers.specs.Headers.{sheet_headers}
use Rattle.masks.specs.Masks.{matches}
use Rattle.initialization_header.{specs.declared.IgvmInitializationHeader.IgvmInitializationHeader, specs.Fields.{initialization_fields, kind_number}}
use Rattle.rules.{specs.declared.PageTableRegion.PageTableRegion, specs.Accepted.NotRefused, specs.Relocations.{is_relocatable, relocatable_of, region_count, region_at, page_table_at}, specs.Options.then, proofs.FaultLaws.{refuse_none, else_none}, proofs.VerdictLaws.headers_none}
use Rattle.answers.specs.{declared.Answered.Answered, Verdict.verdict_refusal, Relocations.{sheet_initializations, mask_fault, words_fault, relocations_refusal, found_of, relocations_of, region_fault, check_refusal}}

-- a named answer, by its refusal and its number
abbrev pub answered : Refusal → ℕ → Answered
answered refusal answer = record { refusal = refusal; answer = answer }

-- an accepted sheet is readable
pub accepted_readable : (l : Limits) (s : List ℕ) → is_refusal (verdict_refusal l s) ≡ false → Readable l s
unfolding verdict_refusal
accepted_readable l s v = ((sheet_says l s).0 ((else_none (sheet_refusal l s) _).0 v).0).0

-- its page size is 4096
pub accepted_page_size : (l : Limits) (s : List ℕ) → is_refusal (verdict_refusal l s) ≡ false → page_size_of (revision_of (head_of s)) ≡ 4096
unfolding verdict_refusal
accepted_page_size l s v = ((sheet_says l s).0 ((else_none (sheet_refusal l s) _).0 v).0).1

-- and its headers meet none of 8 to 34
pub accepted_headers : (l : Limits) (s : List ℕ) → is_refusal (verdict_refusal l s) ≡ false → NotRefused (sheet_headers s)
unfolding verdict_refusal
accepted_headers l s v = ((else_none (sheet_refusal l s) _).0 v).1

-- the refusal of an accepted sheet has no row and no detail
pub accepted_none : (l : Limits) (s : List ℕ) → is_refusal (verdict_refusal l s) ≡ false → verdict_refusal l s ≡ no_refusal
unfolding verdict_refusal
accepted_none l s v = let (p, n) = (else_none (sheet_refusal l s) _).0 v in or_else_later (sheet_refusal l s) _ p ∙ headers_none (sheet_headers s) n

-- how many regions the mask has
abbrev pub regions_of : List ℕ → ℕ → ℕ
regions_of s given = region_count (sheet_initializations s) given

-- the mask has a region of each number below the count
pub region_there : (s : List ℕ) (given k : ℕ) → k < regions_of s given → region_at (sheet_initializations s) given k ≡ none → ⊥
unfolding region_at region_count
region_there s given k l e = go (nth_below xs.count p k) refl e
  where
    xs : Rows IgvmInitializationHeader
    xs = sheet_initializations s

    p : ℕ → Bool
    p = λ i. is_relocatable given (xs.row i)

    go : (o : Option ℕ) → nth_below xs.count p k ≡ o → then (row_at xs o) relocatable_of ≡ none → ⊥
    go none q n = let m = nth_none xs.count p k q in omega arith
    go (some i) q n =
        let (_, t, _) = nth_says xs.count p k i q in
        let (kind, _) = and_parts (eqb (kind_number (xs.row i)) 18) (matches given (initialization_fields (xs.row i)).mask) t in
        false≢true (cc (rw kind at n))

-- a region list that is not refused: the file is accepted, the mask is not 0, and there is room for the words
pub list_says : (l : Limits) (s : List ℕ) (given bytes : ℕ) → is_refusal (relocations_refusal l s given bytes) ≡ false
    → (is_refusal (verdict_refusal l s) ≡ false) × (given ≢ 0) × (8 * regions_of s given ≤ bytes / 8)
unfolding relocations_refusal mask_fault words_fault
list_says l s given bytes f =
    let (v, own) = (else_none (verdict_refusal l s) _).0 f in
    let (m, w) = (else_none (in_row 0 (mask_fault given)) _).0 own in
    let z = ((refuse_none (eqb given 0) 34 0 no_fault).0 (rw row_refusal_lem at m)).0 in
    let r = ((refuse_none (ltb (bytes / 8) (8 * regions_of s given)) 36 0 no_fault).0 (rw row_refusal_lem at w)).0 in
    (v, eqb-false given 0 z, ltb-false (bytes / 8) (8 * regions_of s given) r)

-- a check of one region that is not refused: the file is accepted, the mask is not 0 and has a region of this number; and nothing is refused
pub check_says_lem : (l : Limits) (s : List ℕ) (given region : ℕ) → is_refusal (check_refusal l s given region) ≡ false
    → (is_refusal (verdict_refusal l s) ≡ false) × (given ≢ 0) × (region < regions_of s given) × (check_refusal l s given region ≡ no_refusal)
unfolding check_refusal mask_fault region_fault
check_says_lem l s given region f =
    let (v, own) = (else_none (verdict_refusal l s) _).0 f in
    let (m, w) = (else_none (in_row 0 (mask_fault given)) _).0 own in
    let z = ((refuse_none (eqb given 0) 34 0 no_fault).0 (rw row_refusal_lem at m)).0 in
    let r = ((refuse_none (not (ltb region (regions_of s given))) 35 0 no_fault).0 (rw row_refusal_lem at w)).0 in
    (v, eqb-false given 0 z, ltb-true region (regions_of s given) (not-false (ltb region (regions_of s given)) r), or_else_later _ _ v ∙ or_else_later _ _ m ∙ no_fault_row 0 _ (rw row_refusal_lem at w))

pub found_count : (count : ℕ) (table : Option PageTableRegion) (r : Refusal) → (found_of count table r).count ≡ count
found_count count none r = refl
found_count count (some t) r = refl

found_refusal : (refused : Bool) (count : ℕ) (table : Option PageTableRegion) (r : Refusal)
    → (cond refused (found_of 0 none r) (found_of count table r)).refusal ≡ r
found_refusal true count table r = refl
found_refusal false count none r = refl
found_refusal false count (some t) r = refl

-- the refusal in a region list's answer
pub list_refusal : (l : Limits) (s : List ℕ) (given bytes : ℕ) → (relocations_of l s given bytes).refusal ≡ relocations_refusal l s given bytes
unfolding relocations_of
list_refusal l s given bytes =
    let r = relocations_refusal l s given bytes in
    found_refusal (is_refusal r) (regions_of s given) (page_table_at (sheet_initializations s) given) r

-- an accepted sheet, a mask that is not 0 and room for the words: nothing is refused
pub list_fine : (l : Limits) (s : List ℕ) (given bytes : ℕ) → is_refusal (verdict_refusal l s) ≡ false → given ≢ 0
    → 8 * regions_of s given ≤ bytes / 8 → relocations_refusal l s given bytes ≡ no_refusal
unfolding relocations_refusal mask_fault words_fault
list_fine l s given bytes v n r =
    let a : is_fault (mask_fault given) ≡ false = rw (ne_eqb given 0 n) no_fault_lem in
    rw (
      or_else_later (verdict_refusal l s) _ v,
      or_else_later (in_row 0 (mask_fault given)) _ (row_refusal_lem 0 (mask_fault given) ∙ a),
      le-ltb (bytes / 8) (8 * regions_of s given) r,
    ) (no_fault_row 0 no_fault no_fault_lem)

-- and the answer is the regions of the mask
pub list_found : (l : Limits) (s : List ℕ) (given bytes : ℕ) → is_refusal (relocations_refusal l s given bytes) ≡ false
    → relocations_of l s given bytes ≡ found_of (regions_of s given) (page_table_at (sheet_initializations s) given) (relocations_refusal l s given bytes)
unfolding relocations_of
list_found l s given bytes f = rw f
