use Rattle.rows.proofs.Kit.{ap, ◌∙◌}
use Rattle.sheet.{specs.declared.SheetHead.SheetHead, specs.Head.{limits, row_count}, proofs.Readable.{readable_bounds, sheet_says}}
use Rattle.report.proofs.report.Goals as goal

pub new-requires : goal.new-requires
new-requires c = (readable_bounds _ ((sheet_says limits _).0 c.requires.0).0).head

pub report_accepted-requires : goal.report_accepted-requires
report_accepted-requires c =
    let (p, v) = c.requires in
    (p, v (c.if-not-accepted.false), c.rows.ensures ∙ ap (λ (h : SheetHead). row_count h) c.new.ensures)
