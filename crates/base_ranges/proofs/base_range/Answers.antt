use Rattle.rows.proofs.Kit.{refl}
use Rattle.base_ranges.proofs.{PartLaws.{none_there, in_order}}
use Rattle.base_ranges.proofs.base_range.Goals as goal

pub returns-then-last-lowest : goal.returns-then-last-lowest
returns-then-last-lowest c = none_there _ _ _ _ _ _ (rw c.multiple_to-last.ensures at c.if-last-lowest.true)

pub returns-then-any_below-ends_by : goal.returns-then-any_below-ends_by
returns-then-any_below-ends_by c =
    let b = c in
    let t = b in
    let last = t.multiple_to-last.ensures in
    let g = t.args in
    let o = in_order g.alignment g.size g.minimum g.maximum g.lowest g.highest (rw last at t.if-last-lowest.false) b.any_below.ensures (rw last at c.ends_by.ensures) refl in
    rw c.if-any_below-ends_by.true at o

pub returns-then-any_valid : goal.returns-then-any_valid
returns-then-any_valid c =
    let v = c in
    let d = v in
    let b = d in
    let t = b in
    let last = t.multiple_to-last.ensures in
    let g = t.args in
    let o = in_order g.alignment g.size g.minimum g.maximum g.lowest g.highest (rw last at t.if-last-lowest.false) b.any_below.ensures (rw last at d.ends_by.ensures) v.any_valid.ensures in
    rw (d.if-any_below-ends_by.false, c.if-any_valid.true) at o

pub returns : goal.returns
returns c =
    let v = c in
    let d = v in
    let b = d in
    let t = b in
    let last = t.multiple_to-last.ensures in
    let g = t.args in
    let o = in_order g.alignment g.size g.minimum g.maximum g.lowest g.highest (rw last at t.if-last-lowest.false) b.any_below.ensures (rw last at d.ends_by.ensures) v.any_valid.ensures in
    rw (d.if-any_below-ends_by.false, c.if-any_valid.false) at o
