use Rattle.rows.{proofs.Bools.or_false_parts, proofs.Kit.{arith, false, ◌≡◌, ◌≢◌, ◌≤◌, ltb-false, eqb-false}}
use Rattle.igvm_defs.specs.Refusals.{is_refusal}
use Rattle.sheet.{specs.Head.{limits}, proofs.ReadLaws.read_none, proofs.Readable.{Bounds, start_says, started_bounds}}
use Rattle.sheet_headers.{proofs.HeaderLaws.sheet_counts, specs.Headers.sheet_headers}
use Rattle.rules.specs.Verdict.{platforms_refusal}
use Rattle.platform_accept.specs.Accepted.{HoldsCca}
use Rattle.acceptance.proofs.{AcceptanceLaws.{table_room, platforms_none, initializations_none, none_passed}}
use Rattle.acceptance.proofs.accept.Given
use Rattle.acceptance.proofs.accept.Goals as goal
use Rattle.acceptance.proofs.accept.Goals.{Else-a-p}

-- the bounds of the sheet
bounds : (g : Given.Over) (c : Else-a-p g) → Bounds c.args.s.now
bounds g c = started_bounds _ ((start_says limits c.args.s.now).0 c.requires.s_value.0)

-- the platform rows are in order
platforms : (g : Given.Over) (c : Else-a-p g)
    → (is_refusal (platforms_refusal (sheet_headers c.args.s.now)) ≡ false) × HoldsCca c.accept-first.result.cca (sheet_headers c.args.s.now).platforms
platforms g c =
    let (r, z) = or_false_parts _ _ c.if-a-p.false in
    let l : c.args.p ≤ c.accept-first.result.at.row = ltb-false _ _ r in let n : c.args.p ≢ 0 = eqb-false _ _ z in
    platforms_none _ _ _ c.accept-first.ensures (omega (arith, l, c.requires.s_value)) (omega (arith, n, c.requires.s_value))

pub new-requires : goal.new-requires
new-requires g c =
    let b = started_bounds _ ((start_says limits _).0 c.requires.s_value.0) in
    omega (arith, b, c.requires.s_value)

pub accept-first-requires-clause-s_in_bounds : goal.accept-first-requires-clause-s_in_bounds
accept-first-requires-clause-s_in_bounds g c =
    let p = c.requires.s_value in
    (table_room _ p.0, rw (c.new.ensures, p.3) (read_none _ (table_room _ p.0)), rw c.new.ensures, p.1)

pub returns-then-a-p : goal.returns-then-a-p
returns-then-a-p g c =
    let a = c.accept-first.ensures in let high = a.high in
    (a.read, λ f. rw c.requires.contexts_value (none_passed _ _ a.read (omega arith) f))

pub accept-b-requires : goal.accept-b-requires
accept-b-requires g c =
    let e = (goal.at.accept-b-requires g c).Else-a-p in
    let p = c.requires.s_value in let room = c.requires.room in
    let a = c.accept-first.ensures in let high = a.high in let b = bounds g e in
    let l : c.args.p ≤ c.accept-first.result.at.row = ltb-false _ _ (or_false_parts _ _ c.if-a-p.false).0 in
    (omega arith, ((table_room _ p.0, a.read, omega (arith, l, p), rw (p.1, p.2)), ((b.platforms, b.initializations, p.4, (platforms g e).1), (rw (← p.2) room))))

pub accept_directives-requires : goal.accept_directives-requires
accept_directives-requires g c =
    let e = (goal.at.accept_directives-requires g c).Else-a-p in
    let p = c.requires.s_value in let room = c.requires.room in
    let lists = initializations_none _ _ _ c.accept-b.ensures (omega (arith, p, c.if-b-p.false)) (platforms g e).0 in
    let few = lists.holds.count in let counts = (sheet_counts c.args.s.now).initializations in
    (omega arith, ((p.0, p.3, p.4), (lists, omega (arith, p, room), c.requires.contexts_value)))
