-- What the verdict's number tells: 1 to 7 are refusals of reading, 8 and more are of the headers, 0 is acceptance.
use Rattle.rows.{proofs.Kit.{◌≡◌, true, false, inl, inr, List, ℕ, ◌≤◌, ◌<◌, arith}, proofs.Bools.{which, is_false}}
use Rattle.igvm_defs.{specs.declared.Refusal.Refusal, specs.Refusals.is_refusal, proofs.RefusalLaws.{or_else_first, or_else_later}}
use Rattle.sheet.{specs.Head.Limits, specs.Read.sheet_refusal, proofs.NumberLaws.sheet_most}
use Rattle.sheet_headers.specs.Headers.{sheet_headers}
use Rattle.rules.{specs.Verdict.headers_refusal, proofs.FaultLaws.else_none, proofs.NumberLaws.headers_least}
use Rattle.answers.specs.Verdict.{verdict_refusal}

-- number 0 is no refusal
none : (r : Refusal) → r.number ≡ 0 → is_refusal r ≡ false
unfolding is_refusal
none r e = rw e

module _ (l : Limits) (s : List ℕ) where
  -- what reading refuses is the verdict
  reading : is_refusal (sheet_refusal l s) ≡ true → verdict_refusal l s ≡ sheet_refusal l s
  unfolding verdict_refusal
  reading t = or_else_first (sheet_refusal l s) _ t

  -- else the verdict is that of the headers
  headers : is_refusal (sheet_refusal l s) ≡ false → verdict_refusal l s ≡ headers_refusal (sheet_headers s)
  unfolding verdict_refusal
  headers p = or_else_later (sheet_refusal l s) _ p

  -- a refusal with a number below 8 is one of reading, with its number, row and detail
  pub verdict_reading : is_refusal (verdict_refusal l s) ≡ true → (verdict_refusal l s).number < 8
      → (is_refusal (sheet_refusal l s) ≡ true) × (verdict_refusal l s ≡ sheet_refusal l s)
  verdict_reading t below =
      elim (which (is_refusal (sheet_refusal l s))) [
        | inl r ↦ (r, reading r)
        | inr p ↦ let least = headers_least (sheet_headers s) (rw (headers p) at t) in let small = rw (headers p) at below in absurd (omega arith)
      ]

  -- where the verdict's number is 8 or more, reading refuses nothing
  pub verdict_rules : 8 ≤ (verdict_refusal l s).number → is_refusal (sheet_refusal l s) ≡ false
  verdict_rules least = is_false (is_refusal (sheet_refusal l s)) (λ t. let most = sheet_most l s in let large = rw (reading t) at least in omega arith)

  -- where the verdict's number is 0, it accepts, and reading refuses nothing
  pub verdict_accepts : (verdict_refusal l s).number ≡ 0 → (is_refusal (verdict_refusal l s) ≡ false) × (is_refusal (sheet_refusal l s) ≡ false)
  unfolding verdict_refusal
  verdict_accepts e = let v = none (verdict_refusal l s) e in (v, ((else_none (sheet_refusal l s) _).0 v).0)
