use Rattle.rows.{proofs.Kit.{sym, ap, ◌∙◌}, proofs.BelowLaws.{any_below_lem}}
use Rattle.reloc_regions.specs.Regions.{entry}
use Rattle.directive_check.specs.Record.{lacks_context}
use Rattle.directive_pass.proofs.no_matching_vp_context.Goals as goal

pub returns-then-lacks_context : goal.returns-then-lacks_context
returns-then-lacks_context g c =
    let t = ap (lacks_context c.args.contexts) (sym c.at.ensures) ∙ sym c.lacks_context.ensures ∙ c.if-lacks_context.true in
    sym (any_below_lem c.args.regions.now.count (λ j. lacks_context c.args.contexts (entry c.args.regions.now j)) c.loop-i.i c.loop-i-test.true t)
