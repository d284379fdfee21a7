use Rattle.rows.proofs.Kit.{refl, ◌∙◌, rules}
use Rattle.igvm_defs.proofs.AnswerLaws.{thrown}
use Rattle.by_start.proofs.LinkLaws.{placed_within}
use Rattle.initialization_check.proofs.RecordLaws.{holds_clashes, ordered_pushed}
use Rattle.initialization_pass.proofs.InitializationPass.{more_without, more_pushed}
use Rattle.initialization_pass.proofs.add_row.Goals as goal

pub returns-in_err-step-clause-told : goal.returns-in_err-step-clause-told
returns-in_err-step-clause-told g c ps earlier hp held =
    let stepped = c.check-step.ensures.stepped ps earlier hp (holds_clashes c.args.regions.now earlier held) in
    thrown c.from_residual.result _ _ _ c.from_residual.ensures.1 (rw c.in_err-step.was at stepped.fault)

pub returns-in_default-clause-told : goal.returns-in_default-clause-told
returns-in_default-clause-told g c ps earlier hp held =
    rw c.in_ok-step.was at (c.check-step.ensures.stepped ps earlier hp (holds_clashes c.args.regions.now earlier held)).fault

pub returns-in_default-clause-held : goal.returns-in_default-clause-held
returns-in_default-clause-held g c ps earlier hp held =
    more_without c.args.regions.now earlier c.args.h held ((c.check-step.ensures.stepped ps earlier hp (holds_clashes c.args.regions.now earlier held)).region ∙ rw c.in_default.is refl)

pub insert-requires : goal.insert-requires
insert-requires g c =
    let placed = rw (c.in_ok-step.was, c.in-Some.is) at c.check-step.ensures.placed in let w = placed_within c.requires.ordered.order placed.at in let (n, small, more, _) = c.requires.room in
    search rules

pub returns-in-Some-clause-told : goal.returns-in-Some-clause-told
returns-in-Some-clause-told g c ps earlier hp held =
    rw c.in_ok-step.was at (c.check-step.ensures.stepped ps earlier hp (holds_clashes c.args.regions.now earlier held)).fault

pub returns-in-Some-clause-held : goal.returns-in-Some-clause-held
returns-in-Some-clause-held g c ps earlier hp held =
    rw c.push.ensures.pushed
    (more_pushed c.args.regions.now earlier c.args.h held c.in-Some.new.region (rw c.push.ensures.pushed at c.push.ensures.lengths) c.requires.room.0
    ((c.check-step.ensures.stepped ps earlier hp (holds_clashes c.args.regions.now earlier held)).region ∙ rw c.in-Some.is refl))

pub returns-in-Some-clause-ordered : goal.returns-in-Some-clause-ordered
returns-in-Some-clause-ordered g c =
    let placed = rw (c.in_ok-step.was, c.in-Some.is) at c.check-step.ensures.placed in let (n, small, more, _) = c.requires.room in
    ordered_pushed c.args.regions.now c.push.new.self c.args.order.now c.insert.new.self c.in-Some.new.region _ _ n more c.requires.ordered placed.at placed.from c.push.ensures.pushed c.push.ensures.lengths
    c.insert.ensures.next c.insert.ensures.lengths c.insert.ensures.more
