use Rattle.rows.proofs.Kit.{sym, ◌∙◌, arith}
use Rattle.sheet_reader.proofs.ReaderLaws.{row_found}
use Rattle.directive_accept.proofs.{AcceptedLaws.{onward_none, onward_page}}
use Rattle.directive_accept.proofs.past_pages.Goals as goal

pub loop-c-init : goal.loop-c-init
loop-c-init c = onward_none _ _ c.requires.1 c.requires.2

pub row_from-requires : goal.row_from-requires
row_from-requires c = let l = c.loop-c-test.true in (omega (arith, c.requires), c.loop-c.invariant.read.room)

-- what is read lies in the sheet
pub body_from-requires : goal.body_from-requires
body_from-requires c = (row_found _ _ _ _ (sym c.in-Some.is ∙ c.row_from.ensures)).room

pub after-c-requires : goal.after-c-requires
after-c-requires c =
    let r = row_found _ _ _ _ (sym c.in-Some.is ∙ c.row_from.ensures) in
    let l = c.loop-c-test.true in
    (omega (arith, c.requires), omega (arith, r))

pub loop-c-smaller : goal.loop-c-smaller
loop-c-smaller c = rw c.after-c.ensures (let l = c.loop-c-test.true in omega arith)

pub loop-c-preserved : goal.loop-c-preserved
loop-c-preserved c =
    let l = c.loop-c-test.true in
    rw c.after-c.ensures
    (onward_page _ _ _ c.loop-c.invariant (omega (arith, c.requires)) _ (row_found _ _ _ _ (sym c.in-Some.is ∙ c.row_from.ensures)) c.if-r-ne32.false _ c.body_from.ensures (λ arch. c.page_data.ensures arch c.if-not-page_data.false))
