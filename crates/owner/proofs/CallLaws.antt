-- The answers of the two calls, by what stands after the query.
use Rattle.rows.{proofs.Kit.{◌≡◌, sym, ◌∙◌, true, false, List, ℕ, ◌*◌, ◌/◌, ◌≤◌, arith, ltb, ltb-false, length, get_or}, specs.Below.count_below}
use Rattle.masks.specs.Masks.{matches}
use Rattle.igvm_defs.{specs.declared.Refusal.Refusal, specs.Refusals.{refusal, no_refusal}}
use Rattle.lent.specs.Lent.{words_put}
use Rattle.sheet.specs.Head.{limits}
use Rattle.sheet_headers.specs.Headers.{sheet_headers}
use Rattle.rules.specs.Owner.{index_count, index_word}
use Rattle.answers.{specs.Relocations.{sheet_initializations, query_refusal}, specs.Owner.{index_fault, index_refusal, index_after}, proofs.OwnerLaws.{index_given, refused_bytes}}
use Rattle.by_start.specs.declared.KeptRegions.{KeptRegions}
use Rattle.query.{specs.KeptFor.KeptFor, proofs.QueryLaws.{Stops, not_refused, else_stops, own_stops, own_passes}}
use Rattle.owner.proofs.OwnerLaws.{kept_count}

module _ (s : List ℕ) (given : ℕ) (b : List ℕ) where
  -- a refusal: the lent bytes are as they were
  pub index_kept : (r : Refusal) → Stops r (index_refusal limits s given (length b)) → b ≡ index_after limits s given b
  index_kept r (e, t) = sym (refused_bytes limits s given b t)

  pub query_stops : (r : Refusal) → Stops r (query_refusal limits s given) → Stops r (index_refusal limits s given (length b))
  unfolding index_refusal
  query_stops r h = else_stops (query_refusal limits s given) _ r h

  module _ {N M : ℕ} (kept : KeptRegions N M) (stands : KeptFor s given kept) (query : query_refusal limits s given ≡ no_refusal) (count : ℕ)
      (counted : count ≡ count_below kept.regions.count (λ e. matches given (get_or kept.regions.mask e 0))) where
    pub all : count ≡ index_count (sheet_initializations s) given
    all = counted ∙ kept_count s given kept stands

    -- 37
    pub index_37 : (r : Refusal) → ltb (length b / 8) (3 * count) ≡ true → r ≡ refusal 37 0 0 → Stops r (index_refusal limits s given (length b))
    unfolding index_refusal index_fault
    index_37 r t e = own_stops (query_refusal limits s given) 36 (ltb (length b / 8) (3 * index_count (sheet_initializations s) given)) query (rw all at t) r e

    pub index_passes : ltb (length b / 8) (3 * count) ≡ false → index_refusal limits s given (length b) ≡ no_refusal
    unfolding index_refusal index_fault
    index_passes f = own_passes (query_refusal limits s given) 36 (ltb (length b / 8) (3 * index_count (sheet_initializations s) given)) query (rw all at f)

    pub index_room : ltb (length b / 8) (3 * count) ≡ false → 24 * count_below kept.regions.count (λ e. matches given (get_or kept.regions.mask e 0)) ≤ length b
    index_room f = let h = ltb-false _ _ f in omega (arith, h, counted)

    pub index_put : ltb (length b / 8) (3 * count) ≡ false → (after : List ℕ)
        → after ≡ words_put 0 (3 * count_below kept.regions.count (λ e. matches given (get_or kept.regions.mask e 0))) (index_word (sheet_headers s) given) b
        → after ≡ index_after limits s given b
    unfolding index_after
    index_put f after put = put ∙ rw (index_given limits s given (length b) (not_refused _ (index_passes f)), sym counted ∙ all)
