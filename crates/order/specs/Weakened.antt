-- The part of demand 3 that is about the verdict, by what it asks of b's end and which rows it ties: so a condition can be left out.
use Rattle.std.specs.Prelude.{ℕ, ◌+◌, ◌≡◌, List, ◌≢◌, length, take}
use Rattle.rows.specs.Paired.{Free}
use Rattle.sheet.specs.Head.{limits, head_of, row_count}
use Rattle.sheet.specs.Table.{row_kind, offset_of}
use Rattle.sheet.specs.Read.{Readable}
use Rattle.order.specs.Reordered.{PairedRows, OneArea}
use Rattle.order.specs.Demand.{Accepted}

abbrev pub Statement : (List ℕ → Type 0) → (List ℕ → ℕ → ℕ → Type 0) → (List ℕ → ℕ → ℕ → Type 0) → Type 0
Statement End TiedPlatforms TiedDirectives =
    (a b : List ℕ) → Readable limits a → take 16 b ≡ take 16 a → End b → PairedRows a b (TiedPlatforms a) 0 (head_of a).platforms
    → PairedRows a b Free (head_of a).platforms (head_of a).initializations
    → PairedRows a b (TiedDirectives a) ((head_of a).platforms + (head_of a).initializations) (head_of a).directives
    → Accepted limits a → Accepted limits b

-- no byte left over
abbrev pub Whole : List ℕ → Type 0
Whole s = offset_of s (row_count (head_of s)) ≡ length s

abbrev pub AnyEnd : List ℕ → Type 0
AnyEnd s = Unit

abbrev pub NoneTied : List ℕ → ℕ → ℕ → Type 0
NoneTied s = Free

-- directive rows naming one area, none of which is an insert
abbrev pub OneAreaNotInserted : List ℕ → ℕ → ℕ → Type 0
OneAreaNotInserted s k m = (row_kind s k ≢ 50) × (row_kind s m ≢ 50) × OneArea s k m
