use Rattle.rows.proofs.Kit.{◌-◌, ◌+◌, ◌≤◌, arith, ◌≡◌, refl, sym, ap, ◌∙◌, rules}
use Rattle.sheet.{specs.declared.SheetHead.SheetHead, specs.Head.{first_directive}, specs.Walk.cursor_at}
use Rattle.sheet_headers.{specs.Headers.sheet_headers, proofs.{HeaderLaws.sheet_counts, ListLaws.at_directive}}
use Rattle.igvm_defs.{specs.Refusals.{fault, is_fault, is_refusal, in_row}, proofs.{RefusalLaws.row_refusal_lem, AnswerLaws.{thrown, row_passed, row_stopped}}}
use Rattle.directive_check.specs.Record.{DirectiveStepped}
use Rattle.directive_pass.proofs.DirectivePass.{directive_next, directives_stop, directives_end, holds_tables, reached_header, value_met, fault_met}
use Rattle.directive_pass.proofs.validate_directive_headers.Given.{Over}
use Rattle.directive_pass.proofs.validate_directive_headers.Goals as goal
use Rattle.directive_pass.proofs.validate_directive_headers.Goals.{After-validate_row-row}

pub loop-i-init : goal.loop-i-init
loop-i-init g c =
    let s = c.args.s.now.bytes.now in let e = c.args.s.now.head_is in
    let from = c.requires.from_value in let low = from.1 in let high = from.2 in
    let first : c.args.s.now.head.platforms + c.args.s.now.head.initializations ≡ first_directive s = ap (λ (h : SheetHead). h.platforms + h.initializations) e in
    let here : c.args.from.row - (c.args.s.now.head.platforms + c.args.s.now.head.initializations) ≡ c.args.from.row - first_directive s = omega arith in
    record {
      reached = record { below = omega arith; at = from.0 ∙ ap (cursor_at s) (omega arith); passed = rw here c.requires.i_value.0 };
      contexts = rw here c.requires.i_value.1;
    }

pub bad_area-bad-requires : goal.bad_area-bad-requires
bad_area-bad-requires g c =
    (rw (← c.args.s.now.head_is) c.loop-i-test.true, c.loop-i.invariant.reached.at)

pub validate_row-row-requires : goal.validate_row-row-requires
validate_row-row-requires g c =
    let r = c.requires.readable in
    let (at, list) = at_directive _ c.args.s.now.readable _ _ c.loop-i.invariant.reached.at (rw (← c.args.s.now.head_is) c.loop-i-test.true) in
    let room : c.args.regions.now.count ≤ g.row.N = (let n = r.0.count in let m = r.1 in let k = (sheet_counts c.args.s.now.bytes.now).initializations in omega arith) in
    (search rules, (at, list, room))

-- what a turn says of its row: its fault, and the masks with its context
stepped : {g : Over} (c : After-validate_row-row g)
    → let f = sheet_headers c.args.s.now.bytes.now in
    DirectiveStepped f.arch f.initializations f.directives c.loop-i.i-counter c.validate_row-row.result.told c.validate_row-row.result.contexts
stepped c =
    let f = sheet_headers c.args.s.now.bytes.now in
    let r = c.loop-i.invariant in
    let arch : c.arch-arch.result ≡ f.arch = rw (c.arch-arch.ensures, c.revision.ensures, c.args.s.now.head_is) (sheet_counts c.args.s.now.bytes.now).arch in
    rw (← arch)
    (c.validate_row-row.ensures.directive_stepped f.initializations f.directives c.loop-i.i-counter (reached_header r) c.bad_area-bad.ensures (holds_tables _ f.initializations c.requires.readable.0)
    r.contexts)

pub returns-in_err-map_err : goal.returns-in_err-map_err
returns-in_err-map_err g c =
    let row = stepped (goal.at.returns-in_err-map_err g c).After-validate_row-row in
    let (is, t) = row_stopped c.validate_row-row.result.told _ row.fault (first_directive c.args.s.now.bytes.now + c.loop-i.i-counter + 1) c.in_err-map_err.field-0.0 c.in_err-map_err.ensures.cases
    (λ x p. cc) (λ f q. let e = c.args.s.now.head_is in cc) in
    let (told, u) = directives_stop c.loop-i.invariant _ (rw (← c.args.s.now.head_is) c.loop-i-test.true) (refl, t) in
    thrown c.from_residual.result _ _ _ c.from_residual.ensures.1 (is ∙ told, ap is_refusal (sym told) ∙ u)

pub loop-i-preserved : goal.loop-i-preserved
loop-i-preserved g c =
    let row = stepped (goal.at.loop-i-preserved g c).After-validate_row-row in
    let none = row_passed c.validate_row-row.result.told _ row.fault c.in_ok-map_err.ensures.variant in
    directive_next c.loop-i.invariant _ _ (rw (← c.args.s.now.head_is) c.loop-i-test.true) none row.next c.validate_row-row.ensures.next_value

pub no_matching_vp_context-lacking-requires : goal.no_matching_vp_context-lacking-requires
no_matching_vp_context-lacking-requires g c =
    let r = c.requires.readable in
    let n = r.0.count in let m = r.1 in let k = (sheet_counts c.args.s.now.bytes.now).initializations in omega arith

pub returns-in_err-map_err-2 : goal.returns-in_err-map_err-2
unfolding is_fault
returns-in_err-map_err-2 g c =
    let (f, is, e) = fault_met c.refuse_if.result 0 c.in_err-map_err-2.field-0.0 c.in_err-map_err-2.ensures.cases (λ x p. cc) (λ f q. cc) in
    let (t, q) = rw is at c.refuse_if.ensures in
    let (holds, told) = directives_end c.loop-i.invariant c.args.regions.now c.requires.readable.0 (rw (← c.args.s.now.head_is) c.loop-i-test.false) in
    thrown c.from_residual-in_err-map_err-2.result _ _ _ c.from_residual-in_err-map_err-2.ensures.1
    (rw (told, ← c.no_matching_vp_context-lacking.ensures, t) (e ∙ ap (in_row 0) q, row_refusal_lem 0 (fault 34 0)))

pub returns : goal.returns
unfolding in_row is_fault
returns g c =
    let is = value_met c.refuse_if.result c.in_ok-map_err-2.field-0 c.in_ok-map_err-2.ensures.cases (λ z p. cc) (λ f q. q) in
    let t = rw is at c.refuse_if.ensures in
    let (holds, told) = directives_end c.loop-i.invariant c.args.regions.now c.requires.readable.0 (rw (← c.args.s.now.head_is) c.loop-i-test.false) in
    (rw (told, ← c.no_matching_vp_context-lacking.ensures, t), holds)
