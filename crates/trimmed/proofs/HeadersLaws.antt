-- On headers: the rows that remain all stand in the file, and what they rely on remains; and the regions of a mask are the old ones without the dropped.
use Rattle.rows.{proofs.Kit.{◌≡◌, refl, ap, sym, ◌∙◌, Bool, true, false, cond, Option, none, some, List, ℕ, ◌+◌, ◌<◌, le_of_eq, arith, ◌&&◌, ◌||◌, eqb, eqb-true}, specs.Below.{count_below, nth_below}, specs.Rows.{Rows, row_at, Once}, specs.Paired.Free, specs.Lists.remaining, proofs.Bools.{and_parts, and_both, not_both, is_false}, proofs.BelowLaws.{count_none, count_zero, nth_says, nth_number, nth_none, nth_few}, proofs.PairedLaws.unmoved, proofs.RemainingLaws.{place, count_remaining_rows, nth_remaining_rows, remaining_into, remaining_there}}
use Rattle.igvm_defs.specs.Kinds.{directive_list, kind_of}
use Rattle.sheet.{specs.Head.{Limits, head_of, first_directive}, specs.Read.Readable, proofs.Readable.directive_row}
use Rattle.initialization_header.specs.declared.IgvmInitializationHeader.{IgvmInitializationHeader}
use Rattle.directive_header.{specs.Fields.{directive_fields, kind_number, area_of}, proofs.DirectiveLaws.{kind_directive, area_directive}}
use Rattle.sheet_headers.specs.Headers.{sheet_headers}
use Rattle.masks.specs.Masks.{shares}
use Rattle.rules.{specs.Headers.Headers, specs.Options.{passes, then}, specs.Directives.{allocates, is_context}, specs.Relocations.{is_relocatable, is_page_table, relocatable_of, page_table_of, region_count, region_at, page_table_at}, specs.Reordered.{SameMask, SameArea}, proofs.AreaLaws.allocates_names, proofs.Within.Within}
use Rattle.trimmed.specs.{Trimmed.{Remain, directive_kind, directive_area, is_vbs_context, ContextsRemain, AreasRemain}, Answers.{remaining_count, remaining_at, remaining_table}}

-- the file without the dropped rows
abbrev pub trimmed_headers : Remain → Headers → Headers
trimmed_headers remain f =
    record {
      arch = f.arch;
      platforms = f.platforms;
      initializations = remaining remain.initializations f.initializations;
      directives = remaining remain.directives f.directives;
    }

-- ---- the kind and the area of a directive row, by its header

module _ (l : Limits) (s : List ℕ) (ok : Readable l s) (j : ℕ) (below : j < (head_of s).directives) where
  of_list : (kind_of (directive_kind s j)).list ≡ directive_list
  of_list = directive_row l s ok (first_directive s + j) (omega arith) (omega arith)

  row_kind_lem : kind_number ((sheet_headers s).directives.row j) ≡ directive_kind s j
  unfolding sheet_headers
  row_kind_lem = kind_directive (directive_kind s j) of_list _

  row_area : area_of ((sheet_headers s).directives.row j) ≡ directive_area s j
  unfolding sheet_headers
  row_area = area_directive (directive_kind s j) of_list _

  -- a context that the rules ask for is a VBS context
  context_vbs : (level bits : ℕ) → is_context level bits ((sheet_headers s).directives.row j) ≡ true → is_vbs_context (directive_kind s j) ≡ true
  context_vbs level bits e =
      let d = directive_fields ((sheet_headers s).directives.row j) in
      let (h, _) = and_parts ((eqb d.kind 47 || eqb d.kind 48) && eqb d.vtl level) (shares d.mask bits) e in
      let (v, _) = and_parts (eqb d.kind 47 || eqb d.kind 48) (eqb d.vtl level) h in
      rw row_kind_lem at v

  -- a row that allocates an area is of kind 33
  allocates_33 : (area : ℕ) → allocates area ((sheet_headers s).directives.row j) ≡ true → directive_kind s j ≡ 33
  unfolding allocates
  allocates_33 area e =
      let h = (sheet_headers s).directives.row j in
      let (k, _) = and_parts (eqb (kind_number h) 33) (passes (eqb area) (area_of h)) e in
      sym row_kind_lem ∙ eqb-true (kind_number h) 33 k

-- ---- the rows that remain all stand in the file, and what they rely on remains

module _ (l : Limits) (remain : Remain) (s : List ℕ) (ok : Readable l s) (contexts : ContextsRemain remain s) (areas : AreasRemain remain s) where
  pub trimmed_within : Within (trimmed_headers remain (sheet_headers s)) (sheet_headers s)
  unfolding sheet_headers
  trimmed_within =
      let ds = (sheet_headers s).directives in
      record {
        arch = refl;
        platforms = unmoved SameMask (sheet_headers s).platforms;
        initializations = remaining_into remain.initializations (sheet_headers s).initializations Free;
        directives = remaining_into remain.directives ds SameArea;
        contexts = λ level bits j below c.
            remaining_there remain.directives ds j below (contexts j below (context_vbs l s ok j below level bits c));
        areas = λ area i j u o below a.
            let p = place remain.directives ds.count i u in
            remaining_there remain.directives ds j below
            (areas _ area p.below p.there (sym (row_area l s ok _ p.below) ∙ o) j below (allocates_33 l s ok j below area a)
            (sym (row_area l s ok j below) ∙ allocates_names area (ds.row j) a));
      }

-- ---- the regions of a mask

module _ (remain : Remain) (xs : Rows IgvmInitializationHeader) (given : ℕ) where
  pub trimmed_count : region_count (remaining remain.initializations xs) given ≡ remaining_count remain xs given
  unfolding region_count remaining_count
  trimmed_count = count_remaining_rows remain.initializations xs (is_relocatable given)

  pub trimmed_region : (k : ℕ) → region_at (remaining remain.initializations xs) given k ≡ remaining_at remain xs given k
  unfolding region_at remaining_at
  trimmed_region k = ap (λ (o : Option IgvmInitializationHeader). then o relocatable_of) (nth_remaining_rows remain.initializations xs (is_relocatable given) k)

  -- where the mask has one page table at most
  pub trimmed_table : Once (is_page_table given) xs → page_table_at (remaining remain.initializations xs) given ≡ remaining_table remain xs given
  unfolding page_table_at remaining_table
  trimmed_table once =
      ap (λ (o : Option IgvmInitializationHeader). then o page_table_of) (nth_remaining_rows remain.initializations xs (is_page_table given) 0)
      ∙ go (nth_below xs.count table 0) refl
    where
      table : ℕ → Bool
      table j = is_page_table given (xs.row j)

      there : ℕ → Bool
      there j = table j && remain.initializations j

      -- no page table remains
      gone : ((j : ℕ) → j < xs.count → there j ≡ false) → then (row_at xs (nth_below xs.count there 0)) page_table_of ≡ none
      gone h = rw (nth_few xs.count there 0 (le_of_eq (count_none xs.count there h)))

      left : (j : ℕ) → nth_below xs.count table 0 ≡ some j → (b : Bool) → remain.initializations j ≡ b
          → then (row_at xs (nth_below xs.count there 0)) page_table_of ≡ cond b (page_table_of (xs.row j)) none
      left j e true r =
          let (l, g, c) = nth_says xs.count table 0 j e in
          let z : count_below j there ≡ 0 = count_none j there (λ i m. rw ((count_zero j table).0 c i m)) in
          rw (rw z at (nth_number xs.count there j l (and_both (table j) (remain.initializations j) g r)))
      left j e false r =
          let (l, g, c) = nth_says xs.count table 0 j e in
          gone (λ i m. is_false (there i) (λ t.
          let (p, q) = and_parts (table i) (remain.initializations i) t in
          not_both r (rw (once i j m l p g) at q)))

      go : (o : Option ℕ) → nth_below xs.count table 0 ≡ o
          → then (row_at xs (nth_below xs.count there 0)) page_table_of ≡ then o (λ j. cond (remain.initializations j) (page_table_of (xs.row j)) none)
      go none e =
          let few = nth_none xs.count table 0 e in
          gone (λ j m. rw ((count_zero xs.count table).0 (omega arith) j m))
      go (some j) e = left j e (remain.initializations j) refl
