use Rattle.rows.proofs.Kit.{ap, arith}
use Rattle.sheet.{specs.declared.SheetHead.SheetHead, proofs.Readable.readable_bounds}
use Rattle.region_words.proofs.put_regions_if_room.Goals as goal

pub put_through-requires-in_default : goal.put_through-requires-in_default
put_through-requires-in_default c =
    let e = ap (λ (y : SheetHead). y.initializations) c.args.s.now.head_is in
    let few = (readable_bounds _ c.args.s.now.readable).initializations in
    (omega arith, omega arith)
