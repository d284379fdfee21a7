use Rattle.rows.proofs.Kit.{refl, arith}
use Rattle.sheet_reader.proofs.ReaderLaws.{row_found}
use Rattle.initialization_accept.proofs.RowsLaws.{reached_none, row_known, reached_next, there}
use Rattle.initialization_accept.proofs.accept.Goals as goal

pub loop-c-init : goal.loop-c-init
loop-c-init g c =
    let (table, read, first, last) = c.requires.s_in_bounds in let (platforms, initializations, arch, bits) = c.requires.s_bound in let (few, room) = c.requires.room in
    reached_none c.args.s.now c.args.end c.args.x64 c.args.cca _ c.args.from
    (record { table = table; last = last; platforms = platforms; initializations = initializations; arch = arch; bits = bits; room = (few, room) })
    read first refl (c.new-kept.ensures.ordered c.args.kept.now.regions.gpa c.args.kept.now.regions.size)

pub body_from-b-requires : goal.body_from-b-requires
body_from-b-requires g c = (row_found c.args.s.now _ _ _ c.in-Some.ensures).room

pub after-c-requires : goal.after-c-requires
after-c-requires g c =
    let k = row_known c.loop-c.invariant c.loop-c-test.true in let m = (row_found c.args.s.now _ _ _ c.in-Some.ensures).room in let s = c.type_inv.s in
    (omega arith, omega arith)

pub loop-c-preserved : goal.loop-c-preserved
loop-c-preserved g c =
    let inv = c.loop-c.invariant in
    let (found, passed, good) = there c.row_of-found.result _ _ (rw c.if-not-keep_row.false at c.keep_row.ensures) (c.row_of-found.ensures _ _ inv.asked.arch inv.asked.bits) in
    rw c.after-c.ensures (reached_next inv _ _ found _ c.loop-c-test.true c.in-Some.ensures c.body_from-b.ensures good passed)
