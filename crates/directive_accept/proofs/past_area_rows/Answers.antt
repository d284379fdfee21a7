use Rattle.rows.proofs.Kit.{sym, ◌∙◌, arith, rules}
use Rattle.sheet_reader.proofs.ReaderLaws.{row_found}
use Rattle.directive_accept.proofs.{NamedLaws.{areas_none, areas_kept, areas_next}}
use Rattle.directive_accept.proofs.past_area_rows.Goals as goal

pub loop-c-init : goal.loop-c-init
loop-c-init g c = let p = c.requires.s_in_bounds in areas_none _ _ _ p.1 p.2 c.requires.knows_areas

pub row_from-requires : goal.row_from-requires
row_from-requires g c = let l = c.loop-c-test.true in (omega (arith, c.requires.s_in_bounds), c.loop-c.invariant.read.room)

-- what is read lies in the sheet
pub body_from-requires : goal.body_from-requires
body_from-requires g c = (row_found _ _ _ _ (sym c.in-Some.is ∙ c.row_from.ensures)).room

pub area_row-requires : goal.area_row-requires
area_row-requires g c = (search rules, (search rules, c.requires.holds_tables.0))

pub returns-then-not-area_row : goal.returns-then-not-area_row
returns-then-not-area_row g c =
    let a = c.loop-c.invariant in
    areas_kept _ _ _ _ _ a (c.area_row.ensures.by_index _ c.if-not-area_row.true a.known)

pub after-c-requires : goal.after-c-requires
after-c-requires g c =
    let r = row_found _ _ _ _ (sym c.in-Some.is ∙ c.row_from.ensures) in
    let l = c.loop-c-test.true in
    (omega (arith, c.requires.s_in_bounds), omega (arith, r))

pub loop-c-smaller : goal.loop-c-smaller
loop-c-smaller g c = rw c.after-c.ensures (let l = c.loop-c-test.true in omega arith)

-- a row that is in order
pub loop-c-preserved : goal.loop-c-preserved
loop-c-preserved g c =
    let l = c.loop-c-test.true in
    let a = c.loop-c.invariant in
    let row = c.area_row.ensures.named_row _ _ _ c.requires.holds_tables.1 a.known c.if-not-area_row.false in
    rw c.after-c.ensures (areas_next _ _ _ _ _ a (omega (arith, c.requires.s_in_bounds)) _ (row_found _ _ _ _ (sym c.in-Some.is ∙ c.row_from.ensures)) _ c.body_from.ensures row)
