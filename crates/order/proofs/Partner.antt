-- Each row of b has a partner in a, of the same list; and the bodies of both take as many bytes.
use Rattle.rows.{proofs.Kit.{◌≡◌, ◌∙◌, ap, sym, subst, List, ℕ, ◌+◌, ◌-◌, ◌<◌, ◌≤◌, zero-add, le_antisymm, le_of_eq, dec_lt, arith}, specs.Below.sum_below, proofs.BelowLaws.{sum_le, sum_split}}
use Rattle.sheet.{specs.Head.{head_of, row_count}, specs.Table.row_length, specs.Read.list_at, proofs.Readable.{platform_list_lem, initialization_list_lem, directive_list_lem}}
use Rattle.order.specs.Reordered.{Alike, PairedRows, Reordered}

-- ---- one list
module _ {a b : List ℕ} {Tied : ℕ → ℕ → Type 0} {first count : ℕ} (P : PairedRows a b Tied first count) where
  lengths_same : sum_below count (λ i. row_length b (first + i)) ≡ sum_below count (λ i. row_length a (first + i))
  lengths_same =
      le_antisymm
      (sum_le count count (λ i. row_length b (first + i)) (λ i. row_length a (first + i)) P.from P.from_below
      (λ i j l k e. sym (P.to_from i l) ∙ ap P.to e ∙ P.to_from j k)
      (λ j l. le_of_eq (ap (λ (i : ℕ). row_length b (first + i)) (sym (P.to_from j l)) ∙ (P.alike (P.from j) (P.from_below j l)).body_length)))
      (sum_le count count (λ i. row_length a (first + i)) (λ i. row_length b (first + i)) P.to P.to_below
      (λ i j l k e. sym (P.from_to i l) ∙ ap P.from e ∙ P.from_to j k)
      (λ i l. le_of_eq (sym (P.alike i l).body_length)))

  partner_in : (m : ℕ) → first ≤ m → m < first + count → (k : ℕ) × (first ≤ k) × (k < first + count) × Alike a b k m
  partner_in m l h =
      let j = m - first in
      let u : j < count = omega arith in
      let f = P.from_below j u in
      let t = P.to_from j u in
      let e : first + P.to (P.from j) ≡ m = omega arith in
      (first + P.from j, omega arith, omega arith, subst (λ (n : ℕ). Alike a b (first + P.from j) n) e (P.alike (P.from j) f))

-- ---- the three lists

-- the partner in a of row m of b
pub record Partner (a b : List ℕ) (m : ℕ) : Type 0 where
  pub row : ℕ
  pub below : row < row_count (head_of a)
  pub list : list_at (head_of a) m ≡ list_at (head_of a) row
  pub alike : Alike a b row m

module _ {a b : List ℕ} (R : Reordered a b) where
  pub partner : (m : ℕ) → m < row_count (head_of a) → Partner a b m
  partner m l =
      elim (dec_lt m (head_of a).platforms) [
        | yes y ↦
            let (k, g, h, q) = partner_in R.platforms m (omega arith) (omega arith) in
            record { row = k; below = omega arith; list = rw (platform_list_lem (head_of a) m y, platform_list_lem (head_of a) k (omega arith)); alike = q }
        | no n ↦ elim (dec_lt m ((head_of a).platforms + (head_of a).initializations)) [
          | yes y ↦
              let (k, g, h, q) = partner_in R.initializations m (omega arith) (omega arith) in
              let list : list_at (head_of a) m ≡ list_at (head_of a) k = rw (initialization_list_lem (head_of a) m (omega arith) y, initialization_list_lem (head_of a) k g h) in
              record { row = k; below = omega arith; list = list; alike = q }
          | no o ↦
              let (k, g, h, q) = partner_in R.directives m (omega arith) (omega arith) in
              record { row = k; below = omega arith; list = rw (directive_list_lem (head_of a) m (omega arith), directive_list_lem (head_of a) k g); alike = q }
        ]
      ]

  pub bodies_same : sum_below (row_count (head_of a)) (row_length b) ≡ sum_below (row_count (head_of a)) (row_length a)
  bodies_same =
      rw (
        sum_split ((head_of a).platforms + (head_of a).initializations) (head_of a).directives (row_length b),
        sum_split ((head_of a).platforms + (head_of a).initializations) (head_of a).directives (row_length a),
        sum_split (head_of a).platforms (head_of a).initializations (row_length b),
        sum_split (head_of a).platforms (head_of a).initializations (row_length a),
        lengths_same R.initializations,
        lengths_same R.directives,
        simp zero-add at (lengths_same R.platforms),
      )
