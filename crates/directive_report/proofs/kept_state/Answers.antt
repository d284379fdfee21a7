use Rattle.rows.proofs.Kit.{add-zero}
use Rattle.directive_report.proofs.{DirectiveReport.no_areas}
use Rattle.directive_report.proofs.kept_state.Goals as goal

pub loop-i-init : goal.loop-i-init
loop-i-init c =
    let (a, i) = no_areas c.args.s.now.bytes.now c.args.area in
    (rw (c.cursor_at-c.ensures, c.args.s.now.head_is, add-zero), a, i)
