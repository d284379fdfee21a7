use Rattle.rows.{proofs.Kit.{◌≡◌, refl, sym, ap, ◌∙◌, true, add-zero, arith}, specs.Rows.before, specs.Below.{sum_below, nth_below}}
use Rattle.rules.{specs.Relocations.{is_relocatable, relocatable_of, region_count, region_at}, proofs.QueryLaws.region_found}
use Rattle.answers.specs.Relocations.{sheet_initializations}
use Rattle.regions.proofs.{FoundLaws.{regions_few, region_counted, other_passed, row_passed}, TurnLaws.{turn_at, all_rows_lem}}
use Rattle.regions.proofs.region_at.Goals as goal
use Rattle.regions.proofs.region_at.Goals.{then-is_relocatable+else-seen-k, else-is_relocatable}

pub cursor_at-c-requires : goal.cursor_at-c-requires
cursor_at-c-requires c = rw c.args.s.now.head_is (omega arith)

pub loop-init : goal.loop-init
unfolding region_count region_at sum_below nth_below
loop-init c = (rw (c.cursor_at-c.ensures, c.args.s.now.head_is, add-zero), refl, refl)

pub header_at-row-requires : goal.header_at-row-requires
header_at-row-requires c = let t = turn_at c.args.s.now.bytes.now c.args.s.now.head c.args.s.now.head_is c.args.s.now.readable c.loop.c c.loop.counter c.loop.invariant.0 c.loop-test.true in record { at_row = t.listed.0; row_value = t.listed.1 }

pub returns-then-seen-k : goal.returns-then-seen-k
unfolding region_count
returns-then-seen-k c =
    let t = turn_at c.args.s.now.bytes.now c.args.s.now.head c.args.s.now.head_is c.args.s.now.readable c.loop.c c.loop.counter c.loop.invariant.0 c.loop-test.true in
    let h = c.header_at-row.ensures.0 ∙ t.header in
    let xs = sheet_initializations c.args.s.now.bytes.now in
    let m : is_relocatable c.args.given (xs.row c.loop.counter) ≡ true = rw h at (sym c.is_relocatable.ensures ∙ c.if-is_relocatable.true) in
    let k : region_count (before c.loop.counter xs) c.args.given ≡ c.args.k = sym c.loop.invariant.1 ∙ c.if-seen-k.true in
    let found = region_found xs c.args.given c.loop.counter t.within m in
    c.relocatable_of.ensures ∙ ap relocatable_of h ∙ sym (rw k at found)

pub overflow_add-seen : goal.overflow_add-seen
overflow_add-seen c =
    let t = turn_at c.args.s.now.bytes.now c.args.s.now.head c.args.s.now.head_is c.args.s.now.readable c.loop.c c.loop.counter c.loop.invariant.0 c.loop-test.true in
    let few = regions_few (sheet_initializations c.args.s.now.bytes.now) c.args.given c.loop.counter in
    omega arith

pub loop-preserved : goal.loop-preserved
loop-preserved c =
    let t = turn_at c.args.s.now.bytes.now c.args.s.now.head c.args.s.now.head_is c.args.s.now.readable c.loop.c c.loop.counter c.loop.invariant.0 c.loop-test.true in
    let xs = sheet_initializations c.args.s.now.bytes.now in
    let inv = c.loop.invariant in
    let h = c.header_at-row.ensures.0 ∙ t.header in
    let e = c.is_relocatable.ensures ∙ ap (is_relocatable c.args.given) h in
    let next = c.header_at-row.ensures.1 ∙ t.next in
    elim c.if-is_relocatable.branch [
      | then-is_relocatable+else-seen-k w ↦
          let m = sym e ∙ w.if-is_relocatable.true in
          (next, w.seen-is ∙ region_counted xs c.args.given _ _ inv.1 m, other_passed xs c.args.given _ _ _ inv.1 inv.2 w.if-seen-k.false)
      | else-is_relocatable w ↦
          let m = sym e ∙ w.if-is_relocatable.false in
          let (same, none_yet) = row_passed xs c.args.given _ c.args.k m in
          (next, w.seen-is ∙ inv.1 ∙ sym same, none_yet ∙ inv.2)
    ]

pub returns : goal.returns
returns c = sym (rw (all_rows_lem c.args.s.now.bytes.now c.args.s.now.head c.args.s.now.head_is c.loop.counter (omega arith)) at c.loop.invariant.2)
