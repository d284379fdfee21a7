-- The strict verdict, beside the verdict: it has every refusal of the verdict, and accepts exactly what the verdict accepts and where every bit has its context.
use Rattle.rows.proofs.Kit.{◌≡◌, ◌∙◌, true, false, ◌↔◌, List, ℕ, ◌+◌, ◌^◌}
use Rattle.igvm_defs.{specs.Refusals.{refusal, no_refusal, is_refusal}, proofs.RefusalLaws.{or_else_first, or_else_later}}
use Rattle.sheet.specs.Head.{Limits, head_of}
use Rattle.sheet_headers.specs.Headers.{sheet_headers}
use Rattle.rules.{specs.declared.Region.Region, specs.Strict.{contexts_refusal, EveryBit, Named}, proofs.FaultLaws.else_none, proofs.StrictLaws.{contexts_say, contexts_none, contexts_name}}
use Rattle.answers.specs.{Verdict.{verdict_refusal, verdict_of}, Strict.{strict_refusal, strict_verdict_of}}
use Rattle.answers.proofs.AnswerLaws.{accepted_none}

module _ (l : Limits) (s : List ℕ) where
  -- STRICTLY ACCEPTED: ACCEPTED, AND EVERY BIT OF EVERY REGION'S MASK HAS ITS CONTEXT
  pub strictly_accepted : (is_refusal (strict_refusal l s) ≡ false) ↔ ((is_refusal (verdict_refusal l s) ≡ false) × EveryBit (sheet_headers s))
  unfolding strict_refusal
  strictly_accepted = (
    λ h. let (v, c) = (else_none (verdict_refusal l s) _).0 h in (v, (contexts_say (sheet_headers s)).0 c),
    λ (v, e). (else_none (verdict_refusal l s) _).1 (v, (contexts_say (sheet_headers s)).1 e),
  )

  -- EVERY REFUSAL OF THE VERDICT IS THE STRICT VERDICT'S: its number, row, detail and counts
  pub refused_alike : is_refusal (verdict_refusal l s) ≡ true → strict_verdict_of l s ≡ verdict_of l s
  unfolding strict_verdict_of verdict_of strict_refusal
  refused_alike h = rw (or_else_first (verdict_refusal l s) (contexts_refusal (sheet_headers s)) h)

  -- what is strictly accepted is accepted, with the same counts
  pub accepted_alike : is_refusal (strict_refusal l s) ≡ false → strict_verdict_of l s ≡ verdict_of l s
  unfolding strict_verdict_of verdict_of strict_refusal
  accepted_alike h =
      let (v, c) = (else_none (verdict_refusal l s) _).0 h in
      rw (or_else_later (verdict_refusal l s) _ v, contexts_none (sheet_headers s) c, accepted_none l s v)

  -- what the answer is by its refusal
  pub strict_refused : is_refusal (strict_refusal l s) ≡ true → strict_verdict_of l s ≡ record { refusal = strict_refusal l s; platforms = 0; initializations = 0; directives = 0 }
  unfolding strict_verdict_of
  strict_refused h = rw h

  pub strict_accepted : is_refusal (strict_refusal l s) ≡ false
      → strict_verdict_of l s ≡ record { refusal = no_refusal; platforms = (head_of s).platforms; initializations = (head_of s).initializations; directives = (head_of s).directives }
  unfolding strict_verdict_of is_refusal strict_refusal
  strict_accepted h =
      let (v, c) = (else_none (verdict_refusal l s) _).0 h in
      rw (or_else_later (verdict_refusal l s) _ v, contexts_none (sheet_headers s) c)

  -- ANY OTHER ANSWER IS 38, with the row of the first region that has a bit without a context, and the lowest such bit
  pub otherwise : is_refusal (verdict_refusal l s) ≡ false → is_refusal (strict_refusal l s) ≡ true
      → (i : ℕ) × (r : Region) × (k : ℕ) × Named (sheet_headers s) i r k × (strict_refusal l s ≡ refusal 38 ((head_of s).platforms + i + 1) (2 ^ k))
  unfolding strict_refusal sheet_headers
  otherwise v h =
      let e = or_else_later (verdict_refusal l s) (contexts_refusal (sheet_headers s)) v in
      let (i, r, k, named, q) = contexts_name (sheet_headers s) (rw e at h) in (i, r, k, named, e ∙ q)
