-- What document 01 claims of image B, as one table: the change of B, the question and the answer, of a base with the reason that request 7 gives. Beside it what
-- reading finds, what is said of bases, the strict verdict, which row owns an address, and what an index of regions holds. The theorem is in proofs/ImageB.antt.
use Rattle.std.specs.Prelude.{ℕ, zero, suc, ◌+◌, ◌*◌, ◌/◌, ◌%◌, ◌≡◌, cond, List, [], ◌∷◌, ◌++◌, set, take, drop, replicate}
use Rattle.igvm_defs.specs.declared.Refusal.{Refusal}
use Rattle.igvm_defs.specs.Refusals.{is_refusal}
use Rattle.sheet.specs.Head.{limits}
use Rattle.sheet_headers.specs.Headers.{sheet_headers}
use Rattle.rules.specs.Owner.{index_count, index_word}
use Rattle.addresses.specs.declared.BaseCheck.TheVariants.{Valid, AboveMaximum}
use Rattle.addresses.specs.BaseChecks.{check_number}
use Rattle.answers.specs.declared.Answered.{Answered}
use Rattle.answers.specs.declared.Checked.{Checked}
use Rattle.answers.specs.Verdict.{verdict_refusal}
use Rattle.answers.specs.Strict.{strict_refusal}
use Rattle.answers.specs.Relocations.{base_check_of, contains_of}
use Rattle.answers.specs.Owner.{region_owner_of, region_index_of, index_after, region_in}
use Rattle.image_b.specs.ImageB.{image_b}

-- ---- changes of B

-- the w bytes from `at` on say v
abbrev pub put : ℕ → ℕ → ℕ → List ℕ → List ℕ
put zero at v s = s
put (suc w) at v s = put w (at + 1) (v / 256) (set s at (v % 256))

abbrev pub unchanged : List ℕ → List ℕ
unchanged s = s

-- fields of the region in row 2, whose body starts at byte 56
abbrev pub mask : ℕ → List ℕ → List ℕ
mask v = put 4 56 v

abbrev pub alignment : ℕ → List ℕ → List ℕ
alignment v = put 8 60 v

abbrev pub gpa : ℕ → List ℕ → List ℕ
gpa v = put 8 68 v

abbrev pub size : ℕ → List ℕ → List ℕ
size v = put 8 76 v

abbrev pub minimum : ℕ → List ℕ → List ℕ
minimum v = put 8 84 v

abbrev pub maximum : ℕ → List ℕ → List ℕ
maximum v = put 8 92 v

abbrev pub vp : ℕ → List ℕ → List ℕ
vp v = put 2 101 v

abbrev pub part : ℕ → ℕ → List ℕ → List ℕ
part from to s = drop from (take to s)

-- Row 2 twice, the second time with this gpa: 2 initialization rows, and bytes 24 to 32 (the table's line of row 2) and 56 to 104 (its body) once more.
abbrev pub second_region : ℕ → List ℕ → List ℕ
second_region v s = part 0 10 s ++ 2 ∷ 0 ∷ [] ++ part 12 32 s ++ part 24 104 s ++ part 56 104 (gpa v s) ++ drop 104 s

-- ---- questions and answers

pub data Question : Type 0 where
  verdict : Question
  strict : Question
  -- may region 0 of mask 1 be moved to this base, or why not
  base : ℕ → Question
  -- does this address lie in region 0 of mask 1
  contains : ℕ → Question
  -- which row's region, of this mask, owns this address
  owner : ℕ → ℕ → Question
  -- the same of the index of this mask's regions, in so many bytes lent
  looked : ℕ → ℕ → ℕ → Question

pub data Answer : Type 0 where
  accepted : Answer
  -- number, row, detail
  refused : ℕ → ℕ → ℕ → Answer
  -- the number of a named answer
  answered : ℕ → Answer
  yes : Answer
  no : Answer

-- the refusal, or else this answer
abbrev pub refusal_or : Refusal → Answer → Answer
refusal_or r answer = cond (is_refusal r) (refused r.number r.row r.detail) answer

abbrev pub answer_says : Answered → Answer
answer_says a = refusal_or a.refusal (answered a.answer)

abbrev pub check_says : Checked → Answer
check_says c = refusal_or c.refusal (cond c.holds yes no)

-- what the definitions of the calls' answers say of a sheet
abbrev pub says : Question → List ℕ → Answer
says verdict s = refusal_or (verdict_refusal limits s) accepted
says strict s = refusal_or (strict_refusal limits s) accepted
says (base x) s = answer_says (base_check_of limits s 1 0 x)
says (contains x) s = check_says (contains_of limits s 1 0 x)
says (owner given x) s = answer_says (region_owner_of limits s given x)
says (looked given lent x) s =
    let a : Answered = region_index_of limits s given lent in
    refusal_or a.refusal (answered (region_in (take (24 * a.answer) (index_after limits s given (replicate lent 0))) x))

-- ---- the table

pub record Claim : Type 0 where
  pub change : List ℕ → List ℕ
  pub question : Question
  pub answer : Answer

abbrev pub claim : (List ℕ → List ℕ) → Question → Answer → Claim
claim change question answer = record { change = change; question = question; answer = answer }

abbrev pub claims : List Claim
claims =
    claim unchanged verdict accepted
    ∷ claim (alignment 0) verdict (refused 19 2 0)
    ∷ claim (size 0) verdict (refused 27 2 0)
    ∷ claim (gpa 0xFFFFFFFFFFFFE000) verdict (refused 28 2 0)
    ∷ claim (gpa 0xFFFFFFFFFFFFD000) verdict accepted
    ∷ claim (second_region 0x102000) verdict accepted
    ∷ claim (second_region 0x101000) verdict (refused 29 3 0)
    ∷ claim (mask 3) verdict accepted
    ∷ claim (vp 1) verdict (refused 34 0 0)
    ∷ claim unchanged (base 0x1FE000) (answered (check_number Valid))
    ∷ claim unchanged (base 0x1FF000) (answered (check_number AboveMaximum))
    ∷ claim unchanged (contains 0x101FFF) yes
    ∷ claim unchanged (contains 0x102000) no
    ∷ []

-- ---- reading: each of 1 to 7, and which comes first where two apply

abbrev pub revision0 : List ℕ → List ℕ
revision0 s = set s 0 0

-- revision 2 and page size 8192
abbrev pub pages8192 : List ℕ → List ℕ
pages8192 s = set (set s 0 2) 5 32

abbrev pub initializations65 : List ℕ → List ℕ
initializations65 s = set s 10 65

-- kind 0 in row 1, in row 3
abbrev pub kind0 : List ℕ → List ℕ
kind0 s = set s 16 0

abbrev pub kind0_in_row3 : List ℕ → List ℕ
kind0_in_row3 s = set s 32 0

-- 15 bytes in row 1, whose kind has 16
abbrev pub length15 : List ℕ → List ℕ
length15 s = set s 20 15

-- 200 bytes in row 2, whose kind has 48: more than there are
abbrev pub length200 : List ℕ → List ℕ
length200 s = set s 28 200

-- VTL 3 in row 2
abbrev pub vtl3 : List ℕ → List ℕ
vtl3 s = set s 103 3

abbrev pub byte_more : List ℕ → List ℕ
byte_more s = s ++ (0 ∷ [])

-- B has 109 bytes, of which the first 40 are head and table
abbrev pub byte_less : List ℕ → List ℕ
byte_less s = take 108 s

abbrev pub table_less : List ℕ → List ℕ
table_less s = take 39 s

abbrev pub readings : List Claim
readings =
    claim (λ _. []) verdict (refused 1 0 0)
    ∷ claim table_less verdict (refused 1 0 0)
    ∷ claim byte_less verdict (refused 1 3 0)
    ∷ claim revision0 verdict (refused 2 0 0)
    ∷ claim initializations65 verdict (refused 3 0 0)
    ∷ claim kind0 verdict (refused 4 1 0)
    ∷ claim vtl3 verdict (refused 5 2 0)
    ∷ claim byte_more verdict (refused 6 0 0)
    ∷ claim pages8192 verdict (refused 7 0 8192)
    -- two apply
    ∷ claim (λ s. revision0 (initializations65 s)) verdict (refused 2 0 0)
    ∷ claim (λ s. initializations65 (table_less s)) verdict (refused 3 0 0)
    ∷ claim (λ s. kind0 (length15 s)) verdict (refused 4 1 0)
    ∷ claim length200 verdict (refused 5 2 0)
    ∷ claim (λ s. vtl3 (kind0_in_row3 s)) verdict (refused 5 2 0)
    ∷ claim (λ s. byte_more (pages8192 s)) verdict (refused 6 0 0)
    ∷ []

-- ---- bases: each of 1 to 4, and which comes first where several apply

abbrev pub bases : List Claim
bases =
    claim (minimum 0x100000) (base 0x100000) (answered 1)
    ∷ claim (minimum 0x100000) (base 0x100800) (answered 2)
    ∷ claim (minimum 0x100000) (base 0xFF000) (answered 3)
    ∷ claim (minimum 0x100000) (base 0x1FF000) (answered 4)
    -- unaligned and below the minimum, unaligned and above the maximum
    ∷ claim (minimum 0x100000) (base 0xFF800) (answered 2)
    ∷ claim (minimum 0x100000) (base 0x1FF800) (answered 2)
    -- below the minimum and above the maximum, and unaligned besides
    ∷ claim (λ s. minimum 0x200000 (maximum 0x100000 s)) (base 0x1FF000) (answered 3)
    ∷ claim (λ s. minimum 0x200000 (maximum 0x100000 s)) (base 0x1FF800) (answered 2)
    -- sums of 2^64 - 0x1000, 2^64 and 2^64 + 0x1000
    ∷ claim (maximum 0xFFFFFFFFFFFFF000) (base 0xFFFFFFFFFFFFD000) (answered 1)
    ∷ claim (maximum 0xFFFFFFFFFFFFF000) (base 0xFFFFFFFFFFFFE000) (answered 4)
    ∷ claim (maximum 0xFFFFFFFFFFFFF000) (base 0xFFFFFFFFFFFFF000) (answered 4)
    ∷ []

-- ---- the strict verdict

-- the mask of the second region, in row 3: the table has a line more, and the body starts at byte 112
abbrev pub second_mask : ℕ → List ℕ → List ℕ
second_mask v = put 4 112 v

-- a page table of this mask in row 3, behind the region: its line in the table and its body (gpa 0x300000, size 0x2000, used size 0x1000, VP index 0, VTL 0)
abbrev pub page_table : ℕ → List ℕ → List ℕ
page_table v s =
    let body : List ℕ = 0 ∷ 0 ∷ 0 ∷ 0 ∷ 0 ∷ 0 ∷ 48 ∷ 0 ∷ 0 ∷ 0 ∷ 0 ∷ 0 ∷ 0 ∷ 32 ∷ 0 ∷ 0 ∷ 0 ∷ 0 ∷ 0 ∷ 0 ∷ 0 ∷ 16 ∷ 0 ∷ 0 ∷ 0 ∷ 0 ∷ 0 ∷ 0 ∷ 0 ∷ 0 ∷ 0 ∷ [] in
    part 0 10 s ++ 2 ∷ 0 ∷ [] ++ part 12 32 s ++ 19 ∷ 0 ∷ 0 ∷ 0 ∷ 31 ∷ 0 ∷ 0 ∷ 0 ∷ [] ++ part 32 104 s ++ put 4 0 v body ++ drop 104 s

-- row 3 twice, the second time with this mask and this VTL: 2 directive rows, and bytes 32 to 40 (the table's line of row 3) and 104 to 109 (its body) once more
abbrev pub second_context : ℕ → ℕ → List ℕ → List ℕ
second_context v level s = part 0 12 s ++ 2 ∷ 0 ∷ [] ++ part 14 40 s ++ part 32 40 s ++ drop 40 s ++ drop 104 (put 4 104 v (set s 108 level))

abbrev pub strictly : List Claim
strictly =
    claim unchanged strict accepted
    ∷ claim (mask 3) strict (refused 38 2 2)
    -- two contexts that together have both bits; the second of another VTL
    ∷ claim (λ s. second_context 2 0 (mask 3 s)) strict accepted
    ∷ claim (λ s. second_context 2 1 (mask 3 s)) strict (refused 38 2 2)
    -- the lowest of two bits, the highest bit there is
    ∷ claim (mask 0xD) strict (refused 38 2 4)
    ∷ claim (mask 0x80000001) strict (refused 38 2 0x80000000)
    -- two regions with such a bit, the second alone
    ∷ claim (λ s. second_region 0x102000 (mask 3 s)) strict (refused 38 2 2)
    ∷ claim (λ s. second_mask 5 (second_region 0x102000 s)) strict (refused 38 3 4)
    -- a page table alone
    ∷ claim (page_table 1) strict accepted
    ∷ claim (page_table 3) verdict accepted
    ∷ claim (page_table 3) strict (refused 38 3 2)
    -- the verdict's refusals come first
    ∷ claim (λ s. vp 1 (mask 3 s)) strict (refused 34 0 0)
    ∷ claim (λ s. alignment 0 (mask 3 s)) strict (refused 19 2 0)
    ∷ claim (λ s. byte_more (mask 3 s)) strict (refused 6 0 0)
    ∷ []

-- ---- the owner of an address

-- a region of mask 2 in row 3, from 0x101000 on, over the upper half of the region of mask 1; the context has both bits
abbrev pub over : List ℕ → List ℕ
over s = second_mask 2 (second_region 0x101000 (put 4 104 3 s))

abbrev pub owners : List Claim
owners =
    -- one below, start, last byte, one past
    claim unchanged (owner 1 0xFFFFF) (answered 0)
    ∷ claim unchanged (owner 1 0x100000) (answered 2)
    ∷ claim unchanged (owner 1 0x101FFF) (answered 2)
    ∷ claim unchanged (owner 1 0x102000) (answered 0)
    -- a page table up to its used size, from there up to its size, one past
    ∷ claim (page_table 1) (owner 1 0x300FFF) (answered 3)
    ∷ claim (page_table 1) (owner 1 0x301000) (answered 3)
    ∷ claim (page_table 1) (owner 1 0x301FFF) (answered 3)
    ∷ claim (page_table 1) (owner 1 0x302000) (answered 0)
    -- side by side
    ∷ claim (second_region 0x102000) (owner 1 0x101FFF) (answered 2)
    ∷ claim (second_region 0x102000) (owner 1 0x102000) (answered 3)
    -- two masks over one another
    ∷ claim over (owner 1 0x101000) (answered 2)
    ∷ claim over (owner 2 0x101000) (answered 3)
    ∷ claim over (owner 2 0x100FFF) (answered 0)
    -- a mask of two bits: no region has both, one has, and it has either
    ∷ claim over (owner 3 0x101000) (answered 0)
    ∷ claim (mask 3) (owner 3 0x100000) (answered 2)
    ∷ claim (mask 3) (owner 2 0x100000) (answered 2)
    -- a mask without regions
    ∷ claim unchanged (owner 2 0x100000) (answered 0)
    -- the highest region, and the highest address
    ∷ claim (gpa 0xFFFFFFFFFFFFD000) (owner 1 0xFFFFFFFFFFFFEFFF) (answered 2)
    ∷ claim (gpa 0xFFFFFFFFFFFFD000) (owner 1 0xFFFFFFFFFFFFFFFF) (answered 0)
    -- mask 0, and the verdict's refusals before it
    ∷ claim unchanged (owner 0 0x100000) (refused 35 0 0)
    ∷ claim (size 0) (owner 0 0x100000) (refused 27 2 0)
    ∷ claim (size 0) (owner 1 0x100000) (refused 27 2 0)
    ∷ []

-- ---- the index of a mask's regions

abbrev pub lookups : List Claim
lookups =
    claim unchanged (looked 1 24 0xFFFFF) (answered 0)
    ∷ claim unchanged (looked 1 24 0x100000) (answered 2)
    ∷ claim unchanged (looked 1 24 0x101FFF) (answered 2)
    ∷ claim unchanged (looked 1 24 0x102000) (answered 0)
    -- a second region that starts lower
    ∷ claim (second_region 0xFD000) (looked 1 48 0xFD000) (answered 3)
    ∷ claim (second_region 0xFD000) (looked 1 48 0xFF000) (answered 0)
    ∷ claim (second_region 0xFD000) (looked 1 48 0x100000) (answered 2)
    -- behind the used size of a page table, and below it
    ∷ claim (page_table 1) (looked 1 48 0x301FFF) (answered 3)
    ∷ claim (page_table 1) (looked 1 48 0x2FFFFF) (answered 0)
    -- bytes to spare, a byte less than three words a region, no byte where the mask has no region
    ∷ claim unchanged (looked 1 50 0x100000) (answered 2)
    ∷ claim unchanged (looked 1 23 0x100000) (refused 37 0 0)
    ∷ claim (second_region 0xFD000) (looked 1 47 0x100000) (refused 37 0 0)
    ∷ claim unchanged (looked 2 0 0x100000) (answered 0)
    -- 35 before 37, and the verdict's refusals before both
    ∷ claim unchanged (looked 0 0 0x100000) (refused 35 0 0)
    ∷ claim (size 0) (looked 0 0 0x100000) (refused 27 2 0)
    ∷ []

abbrev pub words_from : ℕ → ℕ → (ℕ → ℕ) → List ℕ
words_from zero w word = []
words_from (suc n) w word = word w ∷ words_from n (w + 1) word

-- its words: of each region start, size and row
abbrev pub indexed : ℕ → List ℕ → List ℕ
indexed given s = words_from (3 * index_count (sheet_headers s).initializations given) 0 (index_word (sheet_headers s) given)

pub record Index : Type 0 where
  pub change : List ℕ → List ℕ
  pub given : ℕ
  pub words : List ℕ

abbrev pub index : (List ℕ → List ℕ) → ℕ → List ℕ → Index
index change given words = record { change = change; given = given; words = words }

abbrev pub indexes : List Index
indexes =
    index unchanged 1 (0x100000 ∷ 0x2000 ∷ 2 ∷ [])
    ∷ index unchanged 2 []
    ∷ index (second_region 0x102000) 1 (0x100000 ∷ 0x2000 ∷ 2 ∷ 0x102000 ∷ 0x2000 ∷ 3 ∷ [])
    ∷ index (second_region 0xFD000) 1 (0xFD000 ∷ 0x2000 ∷ 3 ∷ 0x100000 ∷ 0x2000 ∷ 2 ∷ [])
    ∷ index (page_table 1) 1 (0x100000 ∷ 0x2000 ∷ 2 ∷ 0x300000 ∷ 0x2000 ∷ 3 ∷ [])
    ∷ index (page_table 3) 1 (0x100000 ∷ 0x2000 ∷ 2 ∷ 0x300000 ∷ 0x2000 ∷ 3 ∷ [])
    ∷ index (page_table 3) 3 (0x300000 ∷ 0x2000 ∷ 3 ∷ [])
    ∷ index over 1 (0x100000 ∷ 0x2000 ∷ 2 ∷ [])
    ∷ index over 2 (0x101000 ∷ 0x2000 ∷ 3 ∷ [])
    ∷ index over 3 []
    ∷ []

abbrev pub AllIndexed : List Index → Type 0
AllIndexed [] = Unit
AllIndexed (i ∷ is) = (indexed i.given (i.change image_b) ≡ i.words) × AllIndexed is

-- every claim of the table is true
abbrev pub AllTrue : List Claim → Type 0
AllTrue [] = Unit
AllTrue (c ∷ cs) = (says c.question (c.change image_b) ≡ c.answer) × AllTrue cs
