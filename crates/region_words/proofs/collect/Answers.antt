use Rattle.rows.proofs.Kit.{◌≡◌, ◌∙◌, ap, arith}
use Rattle.sheet.{specs.declared.SheetHead.SheetHead, specs.Head.head_of}
use Rattle.regions.proofs.TurnLaws.{all_rows_lem}
use Rattle.region_words.proofs.{WalkLaws.{walk_none, walk_at, walk_room, walk_few, walk_next}}
use Rattle.region_words.proofs.collect.Goals as goal

pub cursor_at-c-requires : goal.cursor_at-c-requires
cursor_at-c-requires c = rw c.args.s.now.head_is (omega arith)

pub loop-init : goal.loop-init
loop-init c = walk_none c.args.s.now.bytes.now c.args.given c.args.words.now c.args.s.now.head c.args.s.now.head_is c.cursor_at-c.result c.cursor_at-c.ensures

pub cursor_row-row-requires : goal.cursor_row-row-requires
cursor_row-row-requires c = (walk_at c.loop.invariant c.args.s.now.head c.args.s.now.head_is c.args.s.now.readable c.loop-test.true).listed.0

pub cursor_body-b-requires : goal.cursor_body-b-requires
cursor_body-b-requires c = (walk_at c.loop.invariant c.args.s.now.head c.args.s.now.head_is c.args.s.now.readable c.loop-test.true).listed.0

pub first_table-found-requires : goal.first_table-found-requires
first_table-found-requires c =
    let k = walk_at c.loop.invariant c.args.s.now.head c.args.s.now.head_is c.args.s.now.readable c.loop-test.true in
    rw (c.cursor_row-row.ensures.0, c.cursor_body-b.ensures) (k.listed.1, k.least)

pub put_region-count-requires : goal.put_region-count-requires
put_region-count-requires c =
    let w = c.loop.invariant in
    let k = walk_at w c.args.s.now.head c.args.s.now.head_is c.args.s.now.readable c.loop-test.true in
    record {
      kind_value = rw (c.cursor_row-row.ensures.0, c.cursor_body-b.ensures) (k.listed.1, k.least, k.codes, walk_few w c.args.s.now.head c.args.s.now.head_is c.args.s.now.readable c.loop-test.true);
      n_in_bounds = rw (c.cursor_row-row.ensures.0, c.cursor_body-b.ensures) (walk_room w c.args.s.now.head c.args.s.now.head_is c.args.s.now.readable c.loop-test.true c.requires);
    }

pub loop-preserved : goal.loop-preserved
loop-preserved c =
    let row = c.cursor_row-row.ensures in
    let body = c.cursor_body-b.ensures in
    let p = c.put_region-count.ensures in
    walk_next c.loop.invariant c.args.s.now.head c.args.s.now.head_is c.args.s.now.readable c.loop-test.true _ _ _ _ row.1
    (rw (row.0, body) at c.first_table-found.ensures) (rw (row.0, body) at p.value) (rw (row.0, body) at p.words_after)

pub found_table-requires : goal.found_table-requires
found_table-requires c =
    let same = ap (λ (y : SheetHead). y.initializations) c.args.s.now.head_is in
    let all : c.loop.counter ≡ (head_of c.args.s.now.bytes.now).initializations = omega arith in
    rw all at c.loop.invariant.table.within

pub returns : goal.returns
returns c =
    let w = c.loop.invariant in
    let all = all_rows_lem c.args.s.now.bytes.now c.args.s.now.head c.args.s.now.head_is c.loop.counter (omega arith) in
    record { table_value = (c.found_table.ensures ∙ rw all at w.table.table, rw all at w.counted); words_after = rw all at w.words }
