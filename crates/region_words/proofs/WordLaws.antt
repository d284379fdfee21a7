-- The words of a mask's regions, one row at a time.
use Rattle.rows.{proofs.Kit.{◌≡◌, refl, sym, ◌∙◌, Bool, true, false, cond, false≢true, List, [], ◌∷◌, ℕ, ◌+◌, ◌/◌, ◌%◌, ◌≤◌, ◌<◌, add-zero, arith, eqb}, specs.Rows.{Rows, before}}
use Rattle.le.specs.Le.{byte_at, le_at}
use Rattle.igvm_defs.{specs.Kinds.{kind_of, initialization_list}, proofs.Runs.{each, ◌⨾◌}, proofs.VtlLaws.vtl_number_lem}
use Rattle.lent.{specs.Lent.{row_put, rows_put}, proofs.LentLaws.rows_more}
use Rattle.initialization_header.{specs.declared.IgvmInitializationHeader.IgvmInitializationHeader, specs.declared.IgvmInitializationHeader.TheVariants.{GuestPolicy, CcaPolicy, RelocatableRegion, PageTableRelocationRegion}, specs.Fields.kind_number, specs.Initializations.{initialization_of, relocatable_region_of}, proofs.InitializationLaws.kind_initialization}
use Rattle.rules.{specs.Relocations.{is_relocatable, relocatable_of, region_count, region_at}, proofs.QueryLaws.{number_below, region_found}}
use Rattle.answers.specs.Relocations.{region_words}
use Rattle.regions.proofs.FoundLaws.{regions_more}

-- flags up to 7 are the sum of their bits
flags_bits : (f : ℕ) → f ≤ 7 → cond (eqb (f % 2) 1) 1 0 + cond (eqb (f / 2 % 2) 1) 2 0 + cond (eqb (f / 4 % 2) 1) 4 0 ≡ f
flags_bits f h =
    each (λ (k : ℕ). cond (eqb (k % 2) 1) 1 0 + cond (eqb (k / 2 % 2) 1) 2 0 + cond (eqb (k / 4 % 2) 1) 4 0 ≡ k) 0 8
    (refl ⨾ refl ⨾ refl ⨾ refl ⨾ refl ⨾ refl ⨾ refl ⨾ refl ⨾ tt) f (omega arith) (omega arith)

-- a row that is a region of the mask is of kind 18
pub region_kind : (given kind : ℕ) (b : List ℕ) → (kind_of kind).list ≡ initialization_list → is_relocatable given (initialization_of kind b) ≡ true → kind ≡ 18
region_kind given kind b l m = sym (kind_initialization kind l b) ∙ go (initialization_of kind b) m
  where
    go : (h : IgvmInitializationHeader) → is_relocatable given h ≡ true → kind_number h ≡ 18
    go (GuestPolicy policy mask) e = absurd (false≢true e)
    go (CcaPolicy mask zeroes ones) e = absurd (false≢true e)
    go (RelocatableRegion mask alignment gpa size minimum maximum vtl2 rip gdtr vp vtl) e = refl
    go (PageTableRelocationRegion mask gpa size used vp vtl) e = absurd (false≢true e)

pub region_header : (b : List ℕ) → initialization_of 18 b ≡ relocatable_region_of b
unfolding initialization_of
region_header b = refl

-- the words of a region, as its body has them
pub body_words : (b : List ℕ) → byte_at b 44 ≤ 7 → byte_at b 47 ≤ 2
    → le_at 8 b 12 ∷ le_at 8 b 20 ∷ le_at 8 b 4 ∷ le_at 8 b 28 ∷ le_at 8 b 36 ∷ byte_at b 44 ∷ le_at 2 b 45 ∷ byte_at b 47 ∷ []
    ≡ region_words (relocatable_of (relocatable_region_of b))
body_words b f v = rw (flags_bits (byte_at b 44) f, vtl_number_lem (byte_at b 47) v)

module _ (xs : Rows IgvmInitializationHeader) (given : ℕ) where
  -- the words of region n
  abbrev pub words_at : ℕ → List ℕ
  words_at n = region_words (region_at xs given n)

  -- a row that is a region of the mask has a number of its own, below the count
  pub number_room : (i : ℕ) → i < xs.count → is_relocatable given (xs.row i) ≡ true → region_count (before i xs) given < region_count xs given
  unfolding region_count
  number_room i l t = number_below xs given i l t

  number_region : (i : ℕ) → i < xs.count → is_relocatable given (xs.row i) ≡ true → region_at xs given (region_count (before i xs) given) ≡ relocatable_of (xs.row i)
  unfolding region_count
  number_region i l t = region_found xs given i l t

  -- one row more
  pub words_more : (i : ℕ) (b : List ℕ) → i < xs.count
      → cond (is_relocatable given (xs.row i)) (row_put (region_count (before i xs) given) (region_words (relocatable_of (xs.row i))) (rows_put (region_count (before i xs) given) words_at b))
      (rows_put (region_count (before i xs) given) words_at b)
      ≡ rows_put (region_count (before (i + 1) xs) given) words_at b
  words_more i b l = rw (regions_more xs given i) (go (region_count (before i xs) given) (is_relocatable given (xs.row i)) (number_region i l))
    where
      go : (n : ℕ) (t : Bool) → (t ≡ true → region_at xs given n ≡ relocatable_of (xs.row i))
          → cond t (row_put n (region_words (relocatable_of (xs.row i))) (rows_put n words_at b)) (rows_put n words_at b) ≡ rows_put (n + cond t 1 0) words_at b
      go n true e = rw (← e refl) (sym (rows_more n words_at b))
      go n false e = rw add-zero
