use Rattle.rows.proofs.Kit.{◌≡◌, ap, ◌∙◌, ◌+◌, ◌<◌, arith}
use Rattle.igvm_defs.{proofs.{RefusalLaws.{no_fault_lem, row_refusal_lem}, AnswerLaws.{thrown, told_if, row_passed, row_stopped, row_answers}}}
use Rattle.sheet.{specs.declared.Cursor.Cursor, specs.Head.{head_of, row_count}, specs.Read.{end_fault}, specs.Table.offset_of, proofs.ReadLaws.rows_end, proofs.Readable.{RowOk, row_says}}
use Rattle.sheet_rows.proofs.{RowLaws.{rows_stop, stands_at, read_next}}
use Rattle.sheet_rows.proofs.read_from.Goals as goal
use Rattle.sheet_rows.proofs.read_from.Goals.{In_ok-map_err}

-- the row that passed, and that there is one
passed_row : (c : In_ok-map_err) → RowOk c.args.s.now c.loop-c.c.row
passed_row c = (row_says _ _).0 (rw (row_passed c.check_row.result _ c.check_row.ensures c.in_ok-map_err.ensures.variant) no_fault_lem)

pub returns-in_err-map_err : goal.returns-in_err-map_err
returns-in_err-map_err c =
    let l = c.loop-c in
    let s = c.args.s.now in
    let n : l.c.row < row_count (head_of s) = rw (← c.requires.0) (omega arith) in
    let (is, t) = row_stopped c.check_row.result _ c.check_row.ensures (l.c.row + 1) c.in_err-map_err.field-0.0 c.in_err-map_err.ensures.cases (λ x p. cc) (λ f q. cc) in
    thrown c.from_residual.result _ _ _ c.from_residual.ensures.1
    (rw (rows_stop s l.c.row n l.invariant.passed t) (is, row_refusal_lem _ _ ∙ t))

pub place_after-requires : goal.place_after-requires
place_after-requires c =
    let l = c.loop-c in
    let n : l.c.row < row_count (head_of c.args.s.now) = rw (← c.requires.0) (omega arith) in
    stands_at _ l.c l.invariant n (passed_row (goal.at.place_after-requires c).In_ok-map_err) (rw (← c.requires.0) c.requires.1)

pub past_pages-c-requires : goal.past_pages-c-requires
past_pages-c-requires c =
    let l = c.loop-c in
    let n : l.c.row < row_count (head_of c.args.s.now) = rw (← c.requires.0) (omega arith) in
    (c.requires.0, c.requires.1, rw c.place_after.ensures (read_next _ l.c l.invariant n (passed_row (goal.at.past_pages-c-requires c).In_ok-map_err)))

pub returns : goal.returns
unfolding end_fault
returns c =
    let l = c.loop-c in
    let s = c.args.s.now in
    let high = rw (← c.requires.0) at l.invariant.high in
    let k : l.c.row ≡ row_count (head_of s) = rw (← c.requires.0) (omega arith) in
    let o : l.c.at ≡ offset_of s l.c.row = ap (λ (x : Cursor). x.at) l.invariant.at in
    rw (rows_end s (rw k at l.invariant.passed), ← k, ← o)
    (row_answers c.refuse_if.result _ (told_if c.refuse_if.result _ _ _ c.refuse_if.ensures) 0 c.map_err-2.result c.map_err-2.ensures.cases (λ f e q. cc))
