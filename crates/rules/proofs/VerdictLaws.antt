-- Which refusal the verdict on headers is, list after list.
use Rattle.rows.{proofs.Kit.{◌≡◌, ◌∙◌, true, false, ◌+◌}, proofs.Bools.or_false_parts}
use Rattle.igvm_defs.{specs.Refusals.{no_refusal, is_refusal, in_row, first_fault}, proofs.RefusalLaws.{row_refusal_lem, else_refusal, no_fault_row, or_else_first, or_else_later}}
use Rattle.rules.specs.{Headers.Headers, Verdict.{directive_faults, no_matching_vp_context, platforms_refusal, initializations_refusal, directives_refusal, headers_refusal}, Accepted.NotRefused}
use Rattle.rules.proofs.Acceptance.{headers_say}

module _ (h : Headers) where
  pub headers_platforms : is_refusal (platforms_refusal h) ≡ true → headers_refusal h ≡ platforms_refusal h
  unfolding headers_refusal
  headers_platforms t = or_else_first (platforms_refusal h) _ t

  pub headers_initializations : is_refusal (platforms_refusal h) ≡ false → is_refusal (initializations_refusal h) ≡ true → headers_refusal h ≡ initializations_refusal h
  unfolding headers_refusal
  headers_initializations p t = or_else_later (platforms_refusal h) _ p ∙ or_else_first (initializations_refusal h) _ t

  pub headers_directives : is_refusal (platforms_refusal h) ≡ false → is_refusal (initializations_refusal h) ≡ false → headers_refusal h ≡ directives_refusal h
  unfolding headers_refusal
  headers_directives p i = or_else_later (platforms_refusal h) _ p ∙ or_else_later (initializations_refusal h) _ i

  -- a refusal of the directives that is none has no row and no detail
  pub directives_none : is_refusal (directives_refusal h) ≡ false → directives_refusal h ≡ no_refusal
  unfolding directives_refusal
  directives_none e =
      let rows = first_fault (h.platforms.count + h.initializations.count) h.directives.count (directive_faults h) in
      let (a, b) = or_false_parts (is_refusal rows) _ (rw else_refusal at e) in
      or_else_later rows (in_row 0 (no_matching_vp_context h)) a ∙ no_fault_row 0 (no_matching_vp_context h) (rw row_refusal_lem at b)

  -- nor has a refusal of the headers
  pub headers_none : NotRefused h → headers_refusal h ≡ no_refusal
  headers_none n = let (p, i, d) = (headers_say h).0 n in headers_directives p i ∙ directives_none d
