-- Which region owns an address, of a byte string and a mask: the verdict's refusal, 35, then the row or 0. And the index of a mask's regions, in lent words, with what is looked up in them.
use Rattle.std.specs.Prelude.{ℕ, ◌+◌, ◌*◌, ◌/◌, Bool, cond, ◌||◌, List, ltb, length}
use Rattle.std.proofs.Math.Option.{Option, none, some}
use Rattle.rows.specs.Below.{first_below}
use Rattle.le.specs.Le.{le_at}
use Rattle.addresses.specs.Addresses.{contains}
use Rattle.igvm_defs.specs.declared.Fault.{Fault}
use Rattle.igvm_defs.specs.declared.Refusal.{Refusal}
use Rattle.igvm_defs.specs.Refusals.{fault, no_fault, refuse, in_row, or_else}
use Rattle.lent.specs.Lent.{words_put}
use Rattle.sheet.specs.Head.{Limits}
use Rattle.sheet_headers.specs.Headers.{sheet_headers}
use Rattle.rules.specs.Owner.{owner_of, index_count, index_word}
use Rattle.answers.specs.declared.Answered.{Answered}
use Rattle.answers.specs.Verdict.{count_unless}
use Rattle.answers.specs.Relocations.{sheet_initializations, query_refusal}

-- the answer of a sheet: the row of the region that owns the address, or 0
unfoldable pub region_owner_of : Limits → List ℕ → ℕ → ℕ → Answered
region_owner_of l s given gpa =
    record {
      refusal = query_refusal l s given;
      answer = count_unless (query_refusal l s given) (owner_of (sheet_headers s) given gpa);
    }

-- ---- the index, into lent bytes

-- 37: fewer words lent than three a region. Bytes short of a word don't count
unfoldable pub index_fault : ℕ → ℕ → Fault
index_fault count bytes = refuse (ltb (bytes / 8) (3 * count)) (fault 37 0) no_fault

unfoldable pub index_refusal : Limits → List ℕ → ℕ → ℕ → Refusal
index_refusal l s given bytes = or_else (query_refusal l s given) (in_row 0 (index_fault (index_count (sheet_initializations s) given) bytes))

-- the answer, where so many bytes are lent: how many regions the mask has
unfoldable pub region_index_of : Limits → List ℕ → ℕ → ℕ → Answered
region_index_of l s given bytes =
    record {
      refusal = index_refusal l s given bytes;
      answer = count_unless (index_refusal l s given bytes) (index_count (sheet_initializations s) given);
    }

-- the lent bytes afterwards: three words for each region that the answer counts in front; every other byte as it was
unfoldable pub index_after : Limits → List ℕ → ℕ → List ℕ → List ℕ
index_after l s given b = words_put 0 (3 * (region_index_of l s given (length b)).answer) (index_word (sheet_headers s) given) b

-- ---- looked up in the words, whatever they are

-- of region i: start, size and row
abbrev pub start_in : List ℕ → ℕ → ℕ
start_in words i = le_at 8 words (24 * i)

abbrev pub size_in : List ℕ → ℕ → ℕ
size_in words i = le_at 8 words (24 * i + 8)

abbrev pub row_in : List ℕ → ℕ → ℕ
row_in words i = le_at 8 words (24 * i + 16)

-- region i ends the search: it starts above the address, or contains it
abbrev pub ends_at : List ℕ → ℕ → ℕ → Bool
ends_at words gpa i = ltb gpa (start_in words i) || contains (start_in words i) (size_in words i) gpa

abbrev pub answer_at : List ℕ → ℕ → Option ℕ → ℕ
answer_at words gpa none = 0
answer_at words gpa (some i) = cond (ltb gpa (start_in words i)) 0 (row_in words i)

-- the row of the region that contains the address, or 0; three words are a region, and bytes short of that don't count
unfoldable pub region_in : List ℕ → ℕ → ℕ
region_in words gpa = answer_at words gpa (first_below (length words / 24) (ends_at words gpa))
