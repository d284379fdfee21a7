use Rattle.rows.proofs.Kit.{arith, ap, ◌∙◌}
use Rattle.igvm_defs.specs.Revision.{is_x64, arch_of}
use Rattle.sheet.{specs.Head.{row_count, revision_of}, specs.declared.SheetHead.SheetHead}
use Rattle.sheet_headers.proofs.HeaderLaws.{sheet_counts}
use Rattle.judge.proofs.JudgeLaws.{in_order}
use Rattle.judge.proofs.judge.Goals as goal

pub accept-requires : goal.accept-requires
accept-requires g c =
    let (start, h) = c.requires.s_value in let (few, room) = c.requires.room in
    let x = c.is_x64-x64.ensures ∙ ap is_x64 (c.arch.ensures ∙ ap arch_of (c.revision.ensures ∙ ap revision_of h) ∙ (sheet_counts _).arch) in
    let i = ap (λ (y : SheetHead). y.initializations) h in
    (omega arith, ((start, ap (λ (y : SheetHead). y.platforms) h, i, c.rows.ensures ∙ ap row_count h, x), ((omega arith, omega arith), c.requires.contexts_value)))

pub returns : goal.returns
returns g c =
    let (start, h) = c.requires.s_value in
    in_order _ c.in_default.ensures start _ (rw h at c.check_page_size.ensures)
