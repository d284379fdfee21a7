-- The index as it is filled: at a turn of the loop, with one region more, and at the end.
use Rattle.rows.{proofs.Kit.{◌≡◌, refl, sym, ap, ◌∙◌, Bool, true, false, cond, List, ℕ, ◌+◌, ◌-◌, ◌*◌, ◌≤◌, ◌<◌, add-zero, zero-add, arith, length, get_or}, specs.Below.{count_below, sum_below}, proofs.BelowLaws.{count_more, count_lt, count_le}}
use Rattle.masks.specs.Masks.{matches}
use Rattle.lent.{specs.Lent.{word_put, words_put}, proofs.LentLaws.{word_length, words_none, words_more}}
use Rattle.sheet_headers.specs.Headers.{sheet_headers}
use Rattle.rules.specs.Owner.{index_word}
use Rattle.by_start.{specs.declared.KeptRegions.KeptRegions, specs.ByStart.{in_order, ByStart}, proofs.OwnerLaws.{Along, along_first, along_next}}
use Rattle.query.specs.KeptFor.{KeptFor}
use Rattle.owner.proofs.OwnerLaws.{kept_words}

-- the region in place j + 1 is of the mask
abbrev pub mask_in_place : {N M : ℕ} → KeptRegions N M → ℕ → ℕ → Bool
mask_in_place kept given j = matches given (get_or kept.regions.mask (in_order kept.order.next (j + 1) - 1) 0)

-- what the words are after k regions of every sheet that has these regions
abbrev pub Put : {N M : ℕ} → KeptRegions N M → ℕ → List ℕ → List ℕ → ℕ → Type 0
Put kept given was words k = (s : List ℕ) → KeptFor s given kept → words ≡ words_put 0 (3 * k) (index_word (sheet_headers s) given) was

-- the next word, in front
word_on : (w v : ℕ) (word : ℕ → ℕ) (b : List ℕ) → v ≡ word w → word_put w v (words_put 0 w word b) ≡ words_put 0 (w + 1) word b
word_on w v word b e = rw (zero-add w) at (words_more 0 w v word b (rw (zero-add w) e))

pub record Filled {N M : ℕ} (kept : KeptRegions N M) (given : ℕ) (was words : List ℕ) (k i q : ℕ) : Type 0 where
  pub along : Along kept.order.next kept.regions.gpa kept.regions.count i q
  pub count : k ≡ count_below i (mask_in_place kept given)
  pub long : length words ≡ length was
  pub put : Put kept given was words k

pub filled_none : {N M : ℕ} (kept : KeptRegions N M) (given : ℕ) (words : List ℕ) → ByStart kept.order.next kept.regions.gpa kept.regions.count
    → Filled kept given words words 0 0 (get_or kept.order.next 0 0)
unfolding sum_below
filled_none kept given words by = record { along = along_first by; count = refl; long = refl; put = λ s stands. sym (words_none 0 (index_word (sheet_headers s) given) words) }

module _ {N M : ℕ} {kept : KeptRegions N M} {given : ℕ} {was words : List ℕ} {k i q : ℕ} (filled : Filled kept given was words k i q) (l : i < kept.regions.count) where
  -- the words have room for one region more
  pub fill_room : 24 * count_below kept.regions.count (λ e. matches given (get_or kept.regions.mask e 0)) ≤ length was → matches given (get_or kept.regions.mask (q - 1) 0) ≡ true → 24 * k + 24 ≤ length words
  fill_room room m =
      let t : mask_in_place kept given i ≡ true = rw filled.along.here m in
      let u = count_lt i kept.regions.count (mask_in_place kept given) l t in
      let c = filled.along.ordered.counts (λ e. matches given (get_or kept.regions.mask e 0)) in
      let e = filled.count in let d = filled.long in
      omega (arith, u, c, e, d, room)

  pub fill_small : kept.regions.count ≤ 64 → k ≤ 64
  fill_small s = let u = count_le i (mask_in_place kept given) in let e = filled.count in omega (arith, u, e)

  pub fill_on : (m : Bool) → m ≡ matches given (get_or kept.regions.mask (q - 1) 0)
      → Filled kept given was
      (cond m (word_put (3 * k + 2) (get_or kept.rows (q - 1) 0) (word_put (3 * k + 1) (get_or kept.regions.size (q - 1) 0) (word_put (3 * k) (get_or kept.regions.gpa (q - 1) 0) words))) words)
      (cond m (k + 1) k) (i + 1) (get_or kept.order.next q 0)
  fill_on true e =
      let here = filled.along.here in
      let t : mask_in_place kept given i ≡ true = rw here (sym e) in
      record {
        along = along_next filled.along l;
        count = rw (count_more i (mask_in_place kept given), t, ← filled.count);
        long =
            word_length (3 * k + 2) (get_or kept.rows (q - 1) 0) (word_put (3 * k + 1) (get_or kept.regions.size (q - 1) 0) (word_put (3 * k) (get_or kept.regions.gpa (q - 1) 0) words))
            ∙ word_length (3 * k + 1) (get_or kept.regions.size (q - 1) 0) (word_put (3 * k) (get_or kept.regions.gpa (q - 1) 0) words)
            ∙ word_length (3 * k) (get_or kept.regions.gpa (q - 1) 0) words
            ∙ filled.long;
        put =
            λ s stands.
            let (x, y, w) = rw here at (kept_words s given kept stands i l t k filled.count) in
            let d : 3 * k + 1 + 1 ≡ 3 * k + 2 = omega arith in
            let g : 3 * k + 2 + 1 ≡ 3 * (k + 1) = omega arith in
            rw (
              filled.put s stands,
              word_on (3 * k) (get_or kept.regions.gpa (q - 1) 0) (index_word (sheet_headers s) given) was (sym x),
              word_on (3 * k + 1) (get_or kept.regions.size (q - 1) 0) (index_word (sheet_headers s) given) was (sym y),
              d,
              word_on (3 * k + 2) (get_or kept.rows (q - 1) 0) (index_word (sheet_headers s) given) was (sym w),
              g,
            );
      }
  fill_on false e =
      let t : mask_in_place kept given i ≡ false = rw filled.along.here (sym e) in
      record {
        along = along_next filled.along l;
        count = rw (count_more i (mask_in_place kept given), t, add-zero) filled.count;
        long = filled.long;
        put = filled.put;
      }

-- every region passed
pub filled_all : {N M : ℕ} {kept : KeptRegions N M} {given : ℕ} {was words : List ℕ} {k i q : ℕ} → Filled kept given was words k i q → kept.regions.count ≤ i
    → Put kept given was words (count_below kept.regions.count (λ e. matches given (get_or kept.regions.mask e 0)))
filled_all {kept = kept} {given} {was} {words} {k} {i} {q} filled l s stands =
    let so_far = filled.along.so_far in
    let e : i ≡ kept.regions.count = omega arith in
    let c : k ≡ count_below kept.regions.count (λ e. matches given (get_or kept.regions.mask e 0)) =
    filled.count ∙ ap (λ (x : ℕ). count_below x (mask_in_place kept given)) e ∙ filled.along.ordered.counts (λ e. matches given (get_or kept.regions.mask e 0)) in
    rw (← c) (filled.put s stands)
