use Rattle.rows.proofs.Kit.{sym, ◌∙◌, arith}
use Rattle.sheet_reader.proofs.ReaderLaws.{row_found}
use Rattle.directive_accept.proofs.{AcceptedLaws.{plain_none, plain_next, plain_onward}}
use Rattle.directive_accept.proofs.past_plain.Goals as goal

pub loop-c-init : goal.loop-c-init
loop-c-init c = let a = c.requires.directives_accepted in plain_none _ _ _ a.0 a.1

pub row_from-requires : goal.row_from-requires
row_from-requires c = let l = c.loop-c-test.true in (omega (arith, c.requires.s_in_bounds), c.loop-c.invariant.rows.read.room)

-- what is read lies in the sheet
pub body_from-requires : goal.body_from-requires
body_from-requires c = (row_found _ _ _ _ (sym c.in-Some.is ∙ c.row_from.ensures)).room

pub returns-then-not-plain_row : goal.returns-then-not-plain_row
returns-then-not-plain_row c = rw (c.plain_row.ensures.contexts_unchanged.0 c.if-not-plain_row.true) c.loop-c.invariant

pub after-requires : goal.after-requires
after-requires c =
    let r = row_found _ _ _ _ (sym c.in-Some.is ∙ c.row_from.ensures) in
    let l = c.loop-c-test.true in
    (omega (arith, c.requires.s_in_bounds), omega (arith, r))

-- a row that is in order
pub past_like-c-requires : goal.past_like-c-requires
past_like-c-requires c =
    let l = c.loop-c-test.true in
    let p = c.plain_row.ensures in
    let b = c.requires.s_in_bounds in
    let a =
    plain_next _ _ _ _ _ c.loop-c.invariant (omega (arith, b)) _ (row_found _ _ _ _ (sym c.in-Some.is ∙ c.row_from.ensures)) _ c.body_from.ensures (p.plain_row _ b.2 c.if-not-plain_row.false) p.contexts_unchanged.1
    in
    rw c.after.ensures (b.0, a.rows.read, a.rows.low, b.1)

pub loop-c-smaller : goal.loop-c-smaller
loop-c-smaller c = let l = c.loop-c-test.true in let o = rw c.after.ensures at c.past_like-c.ensures.low in omega arith

pub loop-c-preserved : goal.loop-c-preserved
loop-c-preserved c =
    let l = c.loop-c-test.true in
    let p = c.plain_row.ensures in
    let b = c.requires.s_in_bounds in
    plain_onward _ _ _ _ _
    (plain_next _ _ _ _ _ c.loop-c.invariant (omega (arith, b)) _ (row_found _ _ _ _ (sym c.in-Some.is ∙ c.row_from.ensures)) _ c.body_from.ensures (p.plain_row _ b.2 c.if-not-plain_row.false) p.contexts_unchanged.1)
    (rw c.after.ensures at c.past_like-c.ensures)
