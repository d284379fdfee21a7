-- Request 1: the directive limit becomes 8,192 rows and the sheet limit 67,108,864 bytes. What the limits before it answer, on a host that has not been updated,
-- is said of the definitions that the calls' contracts cite, for every byte string, and of the bytes that a caller lends.
use Rattle.std.specs.Prelude.{ℕ, ◌≡◌, true, false, List, ◌⊎◌, length}
use Rattle.std.proofs.Math.Option.{none}
use Rattle.igvm_defs.specs.declared.Refusal.{Refusal}
use Rattle.igvm_defs.specs.Refusals.{refusal}
use Rattle.sheet.specs.Head.{Limits, limits, head_of, within_limits}
use Rattle.sheet.specs.Read.{Readable}
use Rattle.answers.specs.declared.Verdict.{Verdict}
use Rattle.answers.specs.declared.Answered.{Answered}
use Rattle.answers.specs.declared.Checked.{Checked}
use Rattle.answers.specs.Verdict.{verdict_of}
use Rattle.answers.specs.Relocations.{relocations_of, words_after, base_check_of, contains_of, found_of}
use Rattle.line.specs.Line.{line_of}
use Rattle.admission.specs.Admission.{admit_line}
use Rattle.order.specs.Reordered.{Reordered}
use Rattle.order.specs.Demand as demand

-- the limits of a host that has not been updated
unfoldable pub former_limits : Limits
former_limits = record { platforms = 16; initializations = 64; directives = 1024; bytes = 16777216 }

-- no list that the head counts is over its limit, nor are the bytes
abbrev pub Within : Limits → List ℕ → Type 0
Within l s = within_limits l (head_of s) (length s) ≡ true

abbrev pub Over : Limits → List ℕ → Type 0
Over l s = within_limits l (head_of s) (length s) ≡ false

-- every call answers under the limits l as under the limits k
pub record SameAnswers (l k : Limits) (s : List ℕ) : Type 0 where
  -- the verdict: number, row, detail and row counts
  pub verdict : verdict_of l s ≡ verdict_of k s
  -- the region list of every mask, however many bytes are lent: refusal, count and page table
  pub relocations : (given bytes : ℕ) → relocations_of l s given bytes ≡ relocations_of k s given bytes
  -- and every lent byte afterwards
  pub words : (given : ℕ) (b : List ℕ) → words_after l s given b ≡ words_after k s given b
  -- the base check
  pub base : (given region base : ℕ) → base_check_of l s given region base ≡ base_check_of k s given region base
  -- the address check
  pub contains : (given region gpa : ℕ) → contains_of l s given region gpa ≡ contains_of k s given region gpa
  -- the line of `admit`
  pub line : admit_line l s ≡ admit_line k s

-- 3, which names no row
abbrev pub over_limit : Refusal
over_limit = refusal 3 0 0

abbrev pub verdict3 : Verdict
verdict3 = record { refusal = over_limit; platforms = 0; initializations = 0; directives = 0 }

abbrev pub answer3 : Answered
answer3 = record { refusal = over_limit; answer = 0 }

abbrev pub check3 : Checked
check3 = record { refusal = over_limit; holds = false }

-- every call is refused by 3 under the limits l, and no lent byte changes
pub record RefusedBy3 (l : Limits) (s : List ℕ) : Type 0 where
  pub verdict : verdict_of l s ≡ verdict3
  pub relocations : (given bytes : ℕ) → relocations_of l s given bytes ≡ found_of 0 none over_limit
  pub words : (given : ℕ) (b : List ℕ) → words_after l s given b ≡ b
  pub base : (given region base : ℕ) → base_check_of l s given region base ≡ answer3
  pub contains : (given region gpa : ℕ) → contains_of l s given region gpa ≡ check3
  pub line : admit_line l s ≡ line_of verdict3

-- REQUEST 1
pub record Request1 : Type 0 where
  -- every sheet within the former limits gets its former answer
  pub within : (s : List ℕ) → Within former_limits s → SameAnswers limits former_limits s
  -- a host that has not been updated refuses larger readable ones with 3
  pub over : (s : List ℕ) → Readable limits s → Over former_limits s → RefusedBy3 former_limits s
  -- whatever the bytes are, it gives this library's answers, or 3
  pub either : (s : List ℕ) → SameAnswers limits former_limits s ⊎ RefusedBy3 former_limits s
  -- reordered sheets agree at the limits in force, as before: demand 3
  pub reordered : (a b : List ℕ) → Readable limits a → (R : Reordered a b) → demand.SameAnswers limits a b R
