use Rattle.rows.{proofs.{Kit.{not, eqb, add-zero, arith, rules}, Bools.one_at_most}}
use Rattle.sheet_headers.{specs.Headers.sheet_headers, proofs.HeaderLaws.sheet_counts}
use Rattle.rules.specs.Report.{kept_platforms}
use Rattle.initialization_pass.proofs.InitializationPass.{kept_to, reported_none, reported_known, reported_room, reported_few, RowReported, reported_taken, reported_skipped, reported_next, reported_end}
use Rattle.initialization_pass.proofs.report_initialization_headers.Goals.{in-Ok, in-Err}
use Rattle.initialization_pass.proofs.report_initialization_headers.Goals as goal

pub loop-i-init : goal.loop-i-init
loop-i-init c =
    let (platforms, room) = c.requires in let r = c.args.s.now in let s = r.bytes.now in let head = r.head_is in
    reported_none s _ _ _ _ _ _ _ _
    (record {
      readable = r.readable;
      first_row = rw head;
      rows = rw head;
      arch = rw (c.arch-arch.ensures, c.revision.ensures, head) (sheet_counts s).arch;
      platforms = platforms;
    })
    (rw head room) (rw add-zero c.cursor_at-c.ensures) c.new-regions.ensures.empty (c.new-order.ensures.ordered _ _)

pub header_at-row-requires-clause-at_row : goal.header_at-row-requires-clause-at_row
header_at-row-requires-clause-at_row c = (reported_known c.loop-i.invariant c.loop-i-test.true).0

pub header_at-row-requires-clause-row_value : goal.header_at-row-requires-clause-row_value
header_at-row-requires-clause-row_value c = (reported_known c.loop-i.invariant c.loop-i-test.true).1

pub add_row-requires : goal.add_row-requires
add_row-requires c = let (_, _, n, m) = reported_room c.loop-i.invariant c.loop-i-test.true in let o = c.loop-i.invariant.ordered in search rules

pub overflow_add-faulty : goal.overflow_add-faulty
overflow_add-faulty c =
    let m = (reported_room c.loop-i.invariant c.loop-i-test.true).1 in let f = reported_few c.loop-i.invariant in let o = one_at_most (not (eqb c.match-add_row.number 0)) in
    omega arith

pub loop-i-preserved : goal.loop-i-preserved
loop-i-preserved c =
    let r = c.loop-i.invariant in let row = c.header_at-row.ensures in let ps = kept_platforms (sheet_headers c.args.s.now.bytes.now) in let ks = kept_to c.args.s.now.bytes.now c.loop-i.i in
    let told : RowReported c.args.s.now.bytes.now c.loop-i.i c.loop-i.regions c.add_row.new.regions c.match-add_row.number =
    elim c.match-add_row.branch [
      | in-Ok w ↦ rw w.number-is (reported_taken r _ _ row.0 (w.in-Ok.ensures.told ps ks r.asked.platforms r.holds) (w.in-Ok.ensures.held ps ks r.asked.platforms r.holds))
      | in-Err w ↦
          let (told, t) = w.in-Err.ensures.told ps ks r.asked.platforms r.holds in
          rw w.number-is (reported_skipped r _ _ _ row.0 told t (w.in-Err.ensures.held ps ks r.asked.platforms r.holds))
    ] in
    rw c.put_word.ensures (reported_next r _ _ _ _ c.loop-i-test.true told c.add_row.ensures.ordered row.1)

pub returns-clause-holds_regions : goal.returns-clause-holds_regions
returns-clause-holds_regions c = let m = c.loop-i-test.false in let l = c.loop-i.auto.i-end in (reported_end c.loop-i.invariant (omega arith)).0
