use Rattle.rows.{proofs.Kit.{false, ◌≡◌}, specs.Below.any_below}
use Rattle.reloc_regions.specs.Regions.{entry}
use Rattle.directive_check.specs.Record.{lacks_context}
use Rattle.directive_pass.proofs.no_matching_vp_context.Given as goal

abbrev pub invariant-loop-i : goal.invariant-loop-i
invariant-loop-i g l = any_below l.i (λ j. lacks_context l.contexts (entry l.regions j)) ≡ false
