use Rattle.rows.proofs.Kit.{ap, ◌∙◌, arith}
use Rattle.sheet.specs.Head.{row_count}
use Rattle.sheet.specs.declared.SheetHead.{SheetHead}
use Rattle.report.proofs.{CallLaws.{few_faulty, lists_put, lists_told}}
use Rattle.report.proofs.report_rows.Goals as goal

pub overflow_add-result : goal.overflow_add-result
overflow_add-result c = let f = few_faulty c.args.s.now.bytes.now c.args.words.now c.args.s.now.readable in let m = c.report_platform_headers-platforms.ensures.holds_platforms.1 in let n = c.report_initialization_headers-initializations.ensures.holds_regions.1 in omega arith

pub overflow_add-result-2 : goal.overflow_add-result-2
overflow_add-result-2 c = let f = few_faulty c.args.s.now.bytes.now c.args.words.now c.args.s.now.readable in let m = c.report_platform_headers-platforms.ensures.holds_platforms.1 in let n = c.report_initialization_headers-initializations.ensures.holds_regions.1 in let o = c.report_directive_headers-directives.ensures.no_context_value.1 in omega arith

pub returns : goal.returns
returns c =
    let (room, e) = c.requires in let head = c.args.s.now.head_is in let s = c.args.s.now.bytes.now in let b = c.args.words.now in
    let p = c.report_platform_headers-platforms.ensures.holds_platforms in let w1 = c.report_platform_headers-platforms.ensures.words_after in let i = c.report_initialization_headers-initializations.ensures.holds_regions in let w2 = c.report_initialization_headers-initializations.ensures.words_after in let d = c.report_directive_headers-directives.ensures.no_context_value in let w3 = c.report_directive_headers-directives.ensures.words_after in record { value = lists_told s b e _ _ _ _ _ _ p.0 p.1 i.1 d.1 d.0 (c.rows.ensures ∙ ap (λ (h : SheetHead). row_count h) head); words_after = lists_put s b e _ _ _ w1 w2 w3 }
