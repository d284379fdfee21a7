use Rattle.rows.proofs.Kit.{◌≡◌, sym, ◌∙◌, false, not, ◌&&◌, ◌||◌, ◌^◌, ◌<◌, arith, eqb}
use Rattle.masks.specs.Masks.{shares}
use Rattle.sheet.specs.Head.{head_of}
use Rattle.sheet_reader.proofs.ReaderLaws.{row_found}
use Rattle.platform_accept.proofs.{PlatformLaws.{own_says, reached_none, reached_more}}
use Rattle.platform_accept.proofs.accept.Goals as goal

pub loop-c-init : goal.loop-c-init
loop-c-init c = reached_none _ _ c.requires.s_in_bounds.1 c.requires.s_in_bounds.2

pub row_from-requires : goal.row_from-requires
row_from-requires c = let l = c.loop-c-test.true in (omega (arith, c.requires.s_in_bounds), c.loop-c.invariant.accepted.read.room)

pub body_from-requires : goal.body_from-requires
body_from-requires c = (row_found _ _ _ _ (sym c.in-Some.is ∙ c.row_from.ensures)).room

pub type_bit-bit-requires : goal.type_bit-bit-requires
type_bit-bit-requires c = (own_says _ _ (c.in-Some-platform_of.ensures _ c.requires.x64_value).sound).1

pub after-c-requires : goal.after-c-requires
after-c-requires c =
    let r = row_found _ _ _ _ (sym c.in-Some.is ∙ c.row_from.ensures) in let l = c.loop-c-test.true in (omega (arith, c.requires.s_in_bounds), omega (arith, r))

pub loop-c-smaller : goal.loop-c-smaller
loop-c-smaller c = let l = c.loop-c-test.true in rw c.after-c.ensures (omega arith)

pub loop-c-preserved : goal.loop-c-preserved
loop-c-preserved c =
    let l = c.loop-c in let h = c.in-Some-platform_of.h in
    let low : l.c.row < (head_of c.args.s.now).platforms = rw c.requires.s_in_bounds.3 at c.loop-c-test.true in
    let free : (shares l.seen (2 ^ h.platform_type) || (not (eqb h.platform_type 6) && shares l.cca h.compatibility_mask)) ≡ false =
    rw (c.shares-in-loop-c.ensures, c.shares.ensures, c.type_bit-bit.ensures) at c.if-shares-kind.false in
    rw (c.after-c.ensures, c.cca_with-cca.ensures, c.type_bit-bit.ensures)
    (reached_more _ _ _ _ _ h _ l.invariant low (row_found _ _ _ _ (sym c.in-Some.is ∙ c.row_from.ensures)) c.body_from.ensures (c.in-Some-platform_of.ensures _ c.requires.x64_value) free)
