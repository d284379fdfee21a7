use Rattle.rows.proofs.Kit.{◌≡◌, sym, ◌∙◌, true, false, arith}
use Rattle.region_check.proofs.{InLaws.{holds_in, ends_none, ends_above, ends_inside, goes_on}}
use Rattle.region_check.proofs.region_in.Goals as goal

pub loop-i-init : goal.loop-i-init
loop-i-init c = λ j l. absurd (omega arith)

pub u64_at-start-requires : goal.u64_at-start-requires
u64_at-start-requires c = omega arith

pub returns-then-gpa-start : goal.returns-then-gpa-start
returns-then-gpa-start c =
    ends_above c.args.words.now c.args.gpa c.loop-i.i (omega arith) c.loop-i.invariant (rw c.u64_at-start.ensures at c.if-gpa-start.true)

pub u64_at-requires : goal.u64_at-requires
u64_at-requires c = omega arith

pub u64_at-requires-then-contains : goal.u64_at-requires-then-contains
u64_at-requires-then-contains c = omega arith

pub returns-then-contains : goal.returns-then-contains
returns-then-contains c =
    let e = c.u64_at-start.ensures in let f = c.u64_at.ensures in
    let h : holds_in c.args.words.now c.args.gpa c.loop-i.i ≡ true = rw (← e, ← f) (sym c.contains.ensures ∙ c.if-contains.true) in
    c.u64_at-then-contains.ensures ∙ ends_inside c.args.words.now c.args.gpa c.loop-i.i (omega arith) c.loop-i.invariant (omega arith) h

pub loop-i-preserved : goal.loop-i-preserved
loop-i-preserved c =
    let e = c.u64_at-start.ensures in let f = c.u64_at.ensures in
    let h : holds_in c.args.words.now c.args.gpa c.loop-i.i ≡ false = rw (← e, ← f) (sym c.contains.ensures ∙ c.if-contains.false) in
    goes_on c.args.words.now c.args.gpa c.loop-i.i (omega arith) c.loop-i.invariant (omega arith) h

pub returns : goal.returns
returns c =
    ends_none c.args.words.now c.args.gpa (λ j l. c.loop-i.invariant j (omega arith))
