-- 38 over what is kept of a file: the first region with a bit that its VTL's mask has not is the first row's, and the bit is the lowest.
use Rattle.rows.{proofs.Kit.{◌≡◌, refl, sym, ap, ◌∙◌, Bool, true, false≢true, not, List, Option, none, some, ℕ, ◌<◌, ◌≤◌, get_or}, specs.Below.{any_below, first_below}, specs.Rows.any, proofs.BelowLaws.{any_same_tests, first_any, first_says, none_any}}
use Rattle.igvm_defs.{specs.declared.Fault.Fault, specs.Refusals.{fault, no_refusal, is_fault, is_refusal, in_row}, proofs.RefusalLaws.{no_fault_lem, fault_stop, fault_end, row_refusal_lem, or_else_first, none_else}}
use Rattle.masks.{specs.Masks.{shares, individual_masks}, proofs.MaskLaws.first_mask_same}
use Rattle.initialization_header.specs.declared.IgvmInitializationHeader.{IgvmInitializationHeader}
use Rattle.rules.{specs.declared.Region.Region, specs.Options.{passes, then}, specs.Headers.Headers, specs.Regions.{region_of, region_passes}, specs.Directives.is_context, specs.Strict.{bit_without_context, bit_fault, strict_fault, contexts_refusal}, proofs.RegionLaws.region_vtl}
use Rattle.reloc_regions.{specs.declared.RelocRegions.RelocRegions, specs.Regions.entry}
use Rattle.contexts.specs.Contexts.{bit_lacking, found, lacks_bit}
use Rattle.initialization_check.specs.Record.{HoldsRegions, HoldsRows}
use Rattle.directive_check.specs.Record.{HoldsContexts}
use Rattle.sheet.specs.Head.{limits, head_of, start_fault}
use Rattle.sheet_headers.specs.Headers.{sheet_headers}
use Rattle.answers.{specs.Verdict.verdict_refusal, specs.Strict.{strict_refusal, strict_verdict_of}, proofs.StrictLaws.strict_refused, proofs.StrictLaws.strict_accepted}
use Rattle.keep.specs.Kept.{Kept}
use Rattle.validation.proofs.VerdictLaws.{row_none, row_refuses, started, started_rows, verdict_start}

bit_fault_lem : (o : Option ℕ) → is_fault (bit_fault o) ≡ found o
unfolding is_fault
bit_fault_lem none = refl
bit_fault_lem (some bit) = refl

module _ (f : Headers) {N : ℕ} (held : RelocRegions N) (rows contexts : List ℕ) (regions : HoldsRegions held f.initializations)
    (numbers : HoldsRows f.platforms.count rows held f.initializations) (masks : HoldsContexts contexts f.directives) where
  -- by the masks of contexts as by the directive rows
  bit_same : (r : Region) → bit_lacking contexts r.mask r.vtl ≡ bit_without_context f.directives r
  unfolding bit_lacking bit_without_context
  bit_same r =
      first_mask_same (λ bit. not (shares (get_or contexts r.vtl 0) bit)) (λ bit. not (any (is_context r.vtl bit) f.directives))
      (λ bit. ap not (masks r.vtl bit)) (individual_masks r.mask)

  abbrev lacks : Region → Bool
  lacks r = found (bit_without_context f.directives r)

  abbrev faults : ℕ → Fault
  faults i = strict_fault f.directives (f.initializations.row i)

  -- a row has a fault exactly where its region has such a bit
  row_fault_lem : (h : IgvmInitializationHeader) → is_fault (strict_fault f.directives h) ≡ region_passes lacks h
  unfolding strict_fault region_passes
  row_fault_lem h = go (region_of h)
    where
      go : (o : Option Region) → is_fault (bit_fault (then o (bit_without_context f.directives))) ≡ passes lacks o
      go none = no_fault_lem
      go (some r) = bit_fault_lem (bit_without_context f.directives r)

  -- the first e regions
  regions_lack : (e : ℕ) → any_below e (lacks_bit held.mask held.vtl contexts) ≡ any_below e (λ d. lacks (entry held d))
  regions_lack e = any_same_tests e (lacks_bit held.mask held.vtl contexts) (λ d. lacks (entry held d)) (λ d l. ap found (bit_same (entry held d)))

  -- the first i rows
  rows_fault : (i : ℕ) → any_below i (λ j. is_fault (faults j)) ≡ any_below i (λ j. region_passes lacks (f.initializations.row j))
  rows_fault i = any_same_tests i (λ j. is_fault (faults j)) (λ j. region_passes lacks (f.initializations.row j)) (λ j l. row_fault_lem (f.initializations.row j))

  -- no region has such a bit
  pub none_lacking : first_below held.count (lacks_bit held.mask held.vtl contexts) ≡ none → contexts_refusal f ≡ no_refusal
  unfolding contexts_refusal
  none_lacking h =
      fault_end f.platforms.count f.initializations.count faults
      (rows_fault f.initializations.count ∙ sym (regions.same lacks) ∙ sym (regions_lack held.count) ∙ (first_any held.count (lacks_bit held.mask held.vtl contexts)).0 h)

  -- region e is the first that has one, and this is its lowest
  pub first_lacking : (e bit : ℕ) → first_below held.count (lacks_bit held.mask held.vtl contexts) ≡ some e
      → bit_lacking contexts (get_or held.mask e 0) (get_or held.vtl e 0) ≡ some bit
      → (contexts_refusal f ≡ in_row (get_or rows e 0) (fault 38 bit)) × (is_refusal (contexts_refusal f) ≡ true)
  unfolding contexts_refusal strict_fault is_fault
  first_lacking e bit h b =
      let (l, t, before) = first_says held.count (lacks_bit held.mask held.vtl contexts) e h in
      let (i, of) = numbers.each e l in
      let here : faults i ≡ fault 38 bit = rw (of.region, ← bit_same (entry held e), b) in
      let earlier = rows_fault i ∙ sym (of.earlier lacks) ∙ sym (regions_lack e) ∙ (none_any e (lacks_bit held.mask held.vtl contexts)).1 before in
      let fails : is_fault (faults i) ≡ true = rw here in
      let q : contexts_refusal f ≡ in_row (get_or rows e 0) (fault 38 bit) = fault_stop f.platforms.count f.initializations.count faults i of.below earlier fails ∙ rw (here, of.number) in
      (q, rw (q, row_refusal_lem))

-- where a first region is found, it is one of them, and it has such a bit
pub lacking_below : (masks vtls contexts : List ℕ) (n i : ℕ) → first_below n (lacks_bit masks vtls contexts) ≡ some i → i < n
lacking_below masks vtls contexts n i h = (first_says n (lacks_bit masks vtls contexts) i h).0

pub lacking_there : (masks vtls contexts : List ℕ) (n i : ℕ) → first_below n (lacks_bit masks vtls contexts) ≡ some i
    → bit_lacking contexts (get_or masks i 0) (get_or vtls i 0) ≡ none → ⊥
lacking_there masks vtls contexts n i h e = let (_, t, _) = first_says n (lacks_bit masks vtls contexts) i h in false≢true (rw e at t)

pub ruleset lacking = (none_lacking, first_lacking, lacking_below, lacking_there)

-- as many regions are kept as there are initialization rows, or fewer, and each has one of three VTLs
pub kept_few : (s : List ℕ) {N : ℕ} (held : RelocRegions N) (numbers next contexts : List ℕ) → Kept s held numbers next contexts → held.count ≤ (head_of s).initializations
unfolding sheet_headers
kept_few s held numbers next contexts k = k.regions.count

pub kept_vtls : (s : List ℕ) {N : ℕ} (held : RelocRegions N) (numbers next contexts : List ℕ) → Kept s held numbers next contexts
    → (e : ℕ) → e < held.count → get_or held.vtl e 0 < 3
kept_vtls s held numbers next contexts k e l = let (i, of) = k.rows.each e l in region_vtl ((sheet_headers s).initializations.row i) (entry held e) of.region

-- ---- the refusal

module _ (s : List ℕ) where
  -- a refusal of the verdict
  pub strict_first : is_refusal (verdict_refusal limits s) ≡ true → strict_refusal limits s ≡ verdict_refusal limits s
  unfolding strict_refusal
  strict_first t = or_else_first (verdict_refusal limits s) _ t

  -- that of the head or the table
  pub strict_start : is_fault (start_fault limits s) ≡ true → strict_refusal limits s ≡ in_row 0 (start_fault limits s)
  strict_start e = let q = verdict_start limits s e in strict_first (rw (q, row_refusal_lem) e) ∙ q

  -- past the verdict 38, or none
  pub strict_later : verdict_refusal limits s ≡ no_refusal → strict_refusal limits s ≡ contexts_refusal (sheet_headers s)
  unfolding strict_refusal
  strict_later e = rw e (none_else (contexts_refusal (sheet_headers s)))

  -- the answer to a file that is strictly accepted
  pub strict_accepts : strict_refusal limits s ≡ no_refusal
      → strict_verdict_of limits s ≡ record { refusal = no_refusal; platforms = (head_of s).platforms; initializations = (head_of s).initializations; directives = (head_of s).directives }
  unfolding is_refusal
  strict_accepts e = strict_accepted limits s (rw e refl)

pub ruleset strict_verdicts = (started, started_rows, row_none, row_refuses, strict_start, strict_first, strict_later, kept_few, kept_vtls)

pub ruleset strict_answers = (strict_refused, strict_accepts)
