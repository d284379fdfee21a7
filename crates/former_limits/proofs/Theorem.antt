-- Request 1: the theorem.
use Rattle.rows.proofs.Kit.{◌≡◌, List, inl, inr, ℕ, arith, le-ltb}
use Rattle.igvm_defs.specs.Refusals.{fault}
use Rattle.sheet.{specs.Head.{limits, start_fault}, proofs.Readable.readable_reads}
use Rattle.order.proofs.Theorem.{demand_3}
use Rattle.former_limits.specs.Former.{former_limits, SameAnswers, RefusedBy3, Request1}
use Rattle.former_limits.proofs.FormerLaws.{same_refusal, same_answers, refusal_3, refused_by_3, AtMost, start_within, start_over, start_either}

-- no limit was lowered
former_at_most : AtMost former_limits limits
unfolding former_limits limits
former_at_most = omega arith

-- the same fault of the start: the same answers
same : (s : List ℕ) → start_fault limits s ≡ start_fault former_limits s → SameAnswers limits former_limits s
same s e = same_answers limits former_limits s (same_refusal limits former_limits s e)

-- fault 3 of the start: every call is refused by it
refused : (s : List ℕ) → start_fault former_limits s ≡ fault 3 0 → RefusedBy3 former_limits s
refused s e = refused_by_3 former_limits s (refusal_3 former_limits s e)

-- REQUEST 1
pub request_1 : Request1
request_1 =
    record {
      within = λ s w. same s (start_within former_limits limits s former_at_most w);
      over = λ s ok over. let st = (readable_reads limits s ok).start in refused s (start_over former_limits s (le-ltb _ _ st.head) st.layout over);
      either = λ s. elim (start_either former_limits limits s former_at_most) [ inl e ↦ inl (same s e) | inr e ↦ inr (refused s e) ];
      reordered = demand_3 limits;
    }
