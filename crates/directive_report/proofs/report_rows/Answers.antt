use Rattle.rows.{proofs.Kit.{◌≡◌, refl, sym, add-zero, arith, rules}}
use Rattle.lent.proofs.LentLaws.{words_none}
use Rattle.sheet_headers.{specs.Headers.sheet_headers, proofs.HeaderLaws.sheet_counts}
use Rattle.directive_report.proofs.{DirectiveReport.{first_areas, first_contexts, none_counted, words_so_far, directive_next, directives_end}}
use Rattle.directive_report.proofs.report_rows.Goals as goal

pub cursor_at-c-requires : goal.cursor_at-c-requires
cursor_at-c-requires g c = rw c.args.s.now.head_is (omega arith)

pub loop-i-init : goal.loop-i-init
loop-i-init g c =
    let s = c.args.s.now.bytes.now in
    record {
      at = rw (c.cursor_at-c.ensures, c.args.s.now.head_is, add-zero);
      contexts_kept = first_contexts s;
      areas_kept = first_areas s c.new-areas.result c.new-areas.ensures;
      counted = none_counted s;
      few_faulty = omega arith;
      same = refl;
      put = sym (words_none _ _ _);
    }

pub report_row-row-requires : goal.report_row-row-requires
report_row-row-requires g c =
    let r = c.loop-i.invariant in
    let (regions, room) = c.requires.readable in let head = c.args.s.now.head_is in
    let arch : c.arch-arch.result ≡ (sheet_headers c.args.s.now.bytes.now).arch = rw (c.arch-arch.ensures, c.revision.ensures, head) (sheet_counts c.args.s.now.bytes.now).arch in
    let l = rw head at c.loop-i-test.true in
    (search rules, ((arch, r.at, l, words_so_far r room (omega arith)), (regions, (r.contexts_kept, r.areas_kept))))

pub loop-i-preserved : goal.loop-i-preserved
loop-i-preserved g c =
    let l = rw c.args.s.now.head_is at c.loop-i-test.true in
    rw (c.put_word.ensures, c.args.s.now.head_is) (directive_next c.loop-i.invariant _ _ _ _ l c.report_row-row.ensures)

pub returns : goal.returns
returns g c =
    let e = c.args.s.now.head_is in
    let n = c.loop-i.auto.i-end in
    let (p0, p1) = directives_end c.loop-i.invariant (rw (← e) (omega arith)) in
    record { holds_contexts = p0; words_after = p1 }
