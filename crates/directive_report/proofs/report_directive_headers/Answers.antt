use Rattle.rows.proofs.Kit.{rules}
use Rattle.directive_report.proofs.{DirectiveReport.held_room}
use Rattle.directive_report.proofs.report_directive_headers.Goals as goal

pub no_matching_vp_context-requires : goal.no_matching_vp_context-requires
no_matching_vp_context-requires c = let (regions, room) = c.requires in (search rules, held_room _ _ c.args.s.now.readable regions)
