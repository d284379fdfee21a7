-- Words of a region: each below 2^64, and read back from a part of the lent bytes.
use native.Mathlib.Nat.{mul-le-mul_left}
use lib.Seq.{get_or-drop}
use Rattle.rows.{proofs.Kit.{ℕ, zero, suc, ◌+◌, ◌*◌, ◌/◌, ◌%◌, ◌^◌, ◌≤◌, ◌<◌, pow-succ', ◌≡◌, ap, ◌∙◌, Bool, true, false, cond, List, Option, none, some, take, drop, get_or, get_or-take, get_or-eq_default, length-take, eqb, dec_lt, arith}, specs.Below.{sum_below, nth_below}, specs.Rows.{Rows, row_at}, proofs.BelowLaws.{sum_cong}}
use Rattle.le.specs.Le.{byte_at, le_at}
use Rattle.igvm_defs.{specs.Vtls.vtl_of, proofs.VtlLaws.vtl_below}
use Rattle.initialization_header.{specs.declared.IgvmInitializationHeader.IgvmInitializationHeader, specs.Initializations.{initialization_of, guest_policy_of, cca_policy_of, relocatable_region_of, page_table_relocation_region_of}}
use Rattle.rules.{specs.Relocations.{is_relocatable, relocatable_of, region_at}, specs.Options.then}
use Rattle.answers.specs.Relocations.{region_words}
use Rattle.region_check.specs.Agreement.{Bytes}

-- ---- bytes, and numbers of them

pub part_bytes : (n m : ℕ) (b : List ℕ) → Bytes b → Bytes (take n (drop m b))
part_bytes n m b h j =
    elim (dec_lt j n) [
      | yes l ↦ rw (get_or-take n (drop m b) j 0 l, get_or-drop m b j 0) (h (m + j))
      | no l ↦ rw (get_or-eq_default (take n (drop m b)) 0 {n = j} (rw length-take (omega arith))) (omega arith)
    ]

pub le_bound : (w : ℕ) (b : List ℕ) (o : ℕ) → Bytes b → le_at w b o < 256 ^ w
unfolding le_at sum_below
le_bound zero b o h = omega arith
le_bound (suc w) b o h =
    let low = le_bound w b o h in
    let most : byte_at b (o + w) ≤ 255 = omega (arith, h (o + w)) in
    let top = mul-le-mul_left (256 ^ w) most in
    rw (pow-succ' 256 w) (omega arith)

-- the word at o of the part that starts at m
pub le_part : (n m : ℕ) (b : List ℕ) (w o : ℕ) → o + w ≤ n → le_at w (take n (drop m b)) o ≡ le_at w b (m + o)
unfolding le_at
le_part n m b w o l =
    sum_cong w _ _ (λ k g. ap (λ x. 256 ^ k * x)
    (get_or-take n (drop m b) (o + k) 0 (omega arith) ∙ get_or-drop m b (o + k) 0 ∙ ap (λ j. byte_at b j) (omega arith)))

-- the word at o of the first n bytes
pub le_front : (n : ℕ) (b : List ℕ) (w o : ℕ) → o + w ≤ n → le_at w (take n b) o ≡ le_at w b o
unfolding le_at
le_front n b w o l = sum_cong w _ _ (λ k g. ap (λ x. 256 ^ k * x) (get_or-take n b (o + k) 0 (omega arith)))

-- ---- the words of a region

flag_bound : (t : Bool) (n : ℕ) → cond t n 0 ≤ n
flag_bound true n = omega arith
flag_bound false n = omega arith

header_bound : (b : List ℕ) → Bytes b → (j : ℕ) → get_or (region_words (relocatable_of (relocatable_region_of b))) j 0 < 18446744073709551616
header_bound b h zero = le_bound 8 b 12 h
header_bound b h (suc zero) = le_bound 8 b 20 h
header_bound b h (suc (suc zero)) = le_bound 8 b 4 h
header_bound b h (suc (suc (suc zero))) = le_bound 8 b 28 h
header_bound b h (suc (suc (suc (suc zero)))) = le_bound 8 b 36 h
header_bound b h (suc (suc (suc (suc (suc zero))))) =
    let x = flag_bound (eqb (byte_at b 44 % 2) 1) 1 in let y = flag_bound (eqb (byte_at b 44 / 2 % 2) 1) 2 in let z = flag_bound (eqb (byte_at b 44 / 4 % 2) 1) 4 in
    omega (arith, x, y, z)
header_bound b h (suc (suc (suc (suc (suc (suc zero)))))) = let l = le_bound 2 b 45 h in omega (arith, l)
header_bound b h (suc (suc (suc (suc (suc (suc (suc zero))))))) = let l = vtl_below (vtl_of (byte_at b 47)) in omega arith
header_bound b h (suc (suc (suc (suc (suc (suc (suc (suc j)))))))) = omega arith

pub row_bound : (kind : ℕ) (b : List ℕ) → Bytes b → (j : ℕ) → get_or (region_words (relocatable_of (initialization_of kind b))) j 0 < 18446744073709551616
unfolding initialization_of
row_bound kind b h j = go (eqb kind 16) (eqb kind 17) (eqb kind 18)
  where
    go : (x y z : Bool) → get_or (region_words (relocatable_of (cond x (guest_policy_of b) (cond y (cca_policy_of b) (cond z (relocatable_region_of b) (page_table_relocation_region_of b)))))) j 0 < 18446744073709551616
    go true y z = omega arith
    go false true z = omega arith
    go false false true = header_bound b h j
    go false false false = omega arith

-- region k of a list of which each row's words are below 2^64
pub region_bound : (xs : Rows IgvmInitializationHeader) (given k j : ℕ) → ((i : ℕ) → get_or (region_words (relocatable_of (xs.row i))) j 0 < 18446744073709551616)
    → get_or (region_words (region_at xs given k)) j 0 < 18446744073709551616
unfolding region_at
region_bound xs given k j h = go (nth_below xs.count (λ i. is_relocatable given (xs.row i)) k)
  where
    go : (o : Option ℕ) → get_or (region_words (then (row_at xs o) relocatable_of)) j 0 < 18446744073709551616
    go none = omega arith
    go (some i) = h i
