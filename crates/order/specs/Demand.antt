-- Demand 3's conclusion: what run A, over the sheet a, and run B, over the reordered sheet b, answer alike. It is said of the definitions that the
-- calls' contracts cite, and of the bytes that a caller lends.
use Rattle.std.specs.Prelude.{ℕ, ◌+◌, ◌*◌, ◌/◌, ◌<◌, ◌≡◌, true, false, List, ◌↔◌, length}
use Rattle.le.specs.Le.{le_at}
use Rattle.igvm_defs.specs.Refusals.{is_refusal}
use Rattle.sheet.specs.Head.{Limits}
use Rattle.sheet.specs.Read.{Readable}
use Rattle.rules.specs.Relocations.{is_relocatable}
use Rattle.rules.specs.Reordered.{region_number}
use Rattle.rules.specs.Sound.{Sound}
use Rattle.sheet_headers.specs.Headers.{sheet_headers}
use Rattle.answers.specs.Verdict.{verdict_refusal}
use Rattle.answers.specs.Relocations.{sheet_initializations, relocations_of, words_after, base_check_of}
use Rattle.order.specs.Reordered.{Reordered}

-- the verdict is accepted
abbrev pub Accepted : Limits → List ℕ → Type 0
Accepted l s = is_refusal (verdict_refusal l s) ≡ false

-- initialization row i of the sheet, from 0, is one of the mask's regions: a kind 18 row that matches it
pub record IsRegion (s : List ℕ) (given i : ℕ) : Type 0 where
  pub below : i < (sheet_initializations s).count
  pub relocatable : is_relocatable given ((sheet_initializations s).row i) ≡ true

-- its number: from 0, over the mask's regions in header order
abbrev pub number_in : List ℕ → ℕ → ℕ → ℕ
number_in s given i = region_number (sheet_initializations s) given i

pub record SameAnswers (l : Limits) (a b : List ℕ) (R : Reordered a b) : Type 0 where
  -- b is readable too
  pub readable : Readable l b
  -- the verdict is accepted in run A exactly when it is in run B
  pub accepted : Accepted l a ↔ Accepted l b
  -- the partner of a mask's region is one of the mask's regions
  pub region : (given i : ℕ) → IsRegion a given i → IsRegion b given (R.initializations.to i)
  -- Where accepted, with equally many words lent (bytes short of a word don't count), both region lists end in the same refusal, 35 or 37, or
  -- both give the same count and page-table numbers.
  pub relocations : Accepted l a → (given bytes bytes' : ℕ) → bytes / 8 ≡ bytes' / 8 → relocations_of l a given bytes ≡ relocations_of l b given bytes'
  -- Where the lists are not refused, x and y being the bytes lent, paired regions have the same eight words, each region at its own number.
  pub words : Accepted l a → (given i : ℕ) → IsRegion a given i → (x y : List ℕ) → length x / 8 ≡ length y / 8
      → is_refusal (relocations_of l a given (length x)).refusal ≡ false → (k : ℕ) → k < 8
      → le_at 8 (words_after l a given x) (64 * number_in a given i + 8 * k)
      ≡ le_at 8 (words_after l b given y) (64 * number_in b given (R.initializations.to i) + 8 * k)
  -- The base check of paired regions, each by its number in its own run, gives the same answer for every base: the reason too, where it is turned down.
  pub base : Accepted l a → (given i : ℕ) → IsRegion a given i → (base : ℕ)
      → base_check_of l a given (number_in a given i) base ≡ base_check_of l b given (number_in b given (R.initializations.to i)) base
  -- for every nonzero mask no address lies in two of its regions, and each has VP index 0 and a VBS context of its VTL sharing a mask bit with it
  pub sound : Accepted l a → Sound (sheet_headers a) × Sound (sheet_headers b)
