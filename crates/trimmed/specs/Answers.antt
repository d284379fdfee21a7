-- Request 14's conclusion: what the trimmed sheet answers, said of the definitions that the calls' contracts cite, and of the bytes that a caller lends.
use Rattle.std.specs.Prelude.{ℕ, Bool, true, false, cond, ◌&&◌, List, ◌≡◌, length}
use Rattle.std.proofs.Math.Option.{Option, none}
use Rattle.rows.specs.Below.{count_below, nth_below}
use Rattle.rows.specs.Rows.{Rows, row_at}
use Rattle.igvm_defs.specs.Refusals.{no_refusal, is_refusal}
use Rattle.lent.specs.Lent.{rows_put}
use Rattle.sheet.specs.Head.{Limits, head_of}
use Rattle.initialization_header.specs.declared.IgvmInitializationHeader.{IgvmInitializationHeader}
use Rattle.rules.specs.declared.IgvmRelocatableRegion.{IgvmRelocatableRegion}
use Rattle.rules.specs.declared.PageTableRegion.{PageTableRegion}
use Rattle.rules.specs.Options.{then}
use Rattle.rules.specs.Relocations.{is_relocatable, is_page_table, relocatable_of, page_table_of}
use Rattle.answers.specs.declared.Verdict.{Verdict}
use Rattle.answers.specs.Verdict.{verdict_of}
use Rattle.answers.specs.Strict.{strict_verdict_of}
use Rattle.answers.specs.Relocations.{sheet_initializations, found_of, relocations_of, region_words, words_after, base_check_of, contains_of}
use Rattle.order.specs.Demand.{IsRegion, number_in}
use Rattle.order.specs.Strict.{StrictlyAccepted}
use Rattle.trimmed.specs.Trimmed.{Remain, trimmed_sheet}

-- accepted, with the counts of the rows that remain
abbrev pub remaining_verdict : Remain → List ℕ → Verdict
remaining_verdict remain s =
    record {
      refusal = no_refusal;
      platforms = (head_of s).platforms;
      initializations = count_below (head_of s).initializations remain.initializations;
      directives = count_below (head_of s).directives remain.directives;
    }

-- ---- the old regions without the dropped ones. `initializations` are the old rows

module _ (remain : Remain) (initializations : Rows IgvmInitializationHeader) (given : ℕ) where
  -- row j is one of the mask's regions, and remains
  abbrev pub is_remaining_region : ℕ → Bool
  is_remaining_region j = is_relocatable given (initializations.row j) && remain.initializations j

  -- how many these are
  unfoldable pub remaining_count : ℕ
  remaining_count = count_below initializations.count is_remaining_region

  -- number k of them, from 0, in header order
  unfoldable pub remaining_at : ℕ → Option IgvmRelocatableRegion
  remaining_at k = then (row_at initializations (nth_below initializations.count is_remaining_region k)) relocatable_of

  -- the mask's page-table region, if it remains
  unfoldable pub remaining_table : Option PageTableRegion
  remaining_table =
      then (nth_below initializations.count (λ j. is_page_table given (initializations.row j)) 0)
      (λ j. cond (remain.initializations j) (page_table_of (initializations.row j)) none)

-- ---- a region that remains

-- initialization row j is one of the mask's regions, and remains
pub record Remains (remain : Remain) (s : List ℕ) (given j : ℕ) : Type 0 where
  pub region : IsRegion s given j
  pub there : remain.initializations j ≡ true

-- its number in the trimmed sheet: how many of the mask's regions remain before it
abbrev pub new_number : Remain → List ℕ → ℕ → ℕ → ℕ
new_number remain s given j = count_below j (is_remaining_region remain (sheet_initializations s) given)

pub record TrimmedAnswers (l : Limits) (remain : Remain) (s : List ℕ) : Type 0 where
  -- the image stays accepted
  pub verdict : verdict_of l (trimmed_sheet remain s) ≡ remaining_verdict remain s
  -- and so it does by the strict verdict
  pub strict : StrictlyAccepted l s → strict_verdict_of l (trimmed_sheet remain s) ≡ remaining_verdict remain s
  -- The region list, where the old one is not refused: for every nonzero mask, with words enough for it. The answer is the old one without the dropped regions, the
  -- page-table region too.
  pub relocations : (given bytes : ℕ) → is_refusal (relocations_of l s given bytes).refusal ≡ false
      → relocations_of l (trimmed_sheet remain s) given bytes
      ≡ found_of (remaining_count remain (sheet_initializations s) given) (remaining_table remain (sheet_initializations s) given) no_refusal
  -- x being the bytes lent: the words of the regions that remain stand in front, and every other byte is as it was
  pub words : (given : ℕ) (x : List ℕ) → is_refusal (relocations_of l s given (length x)).refusal ≡ false
      → words_after l (trimmed_sheet remain s) given x
      ≡ rows_put (remaining_count remain (sheet_initializations s) given) (λ n. region_words (remaining_at remain (sheet_initializations s) given n)) x
  -- The base check and the address check of a region that remains, by its new number, answer what they answered by the old one, for every base and every address.
  pub base : (given j : ℕ) → Remains remain s given j → (base : ℕ)
      → base_check_of l (trimmed_sheet remain s) given (new_number remain s given j) base ≡ base_check_of l s given (number_in s given j) base
  pub contains : (given j : ℕ) → Remains remain s given j → (gpa : ℕ)
      → contains_of l (trimmed_sheet remain s) given (new_number remain s given j) gpa ≡ contains_of l s given (number_in s given j) gpa
