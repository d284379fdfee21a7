use Rattle.rows.{proofs.Kit.{◌≡◌, none, ◌+◌}, specs.Rows.before}
use Rattle.sheet.{specs.Head.head_of, specs.Walk.cursor_at}
use Rattle.rules.specs.Relocations.{region_count, region_at}
use Rattle.answers.specs.Relocations.{sheet_initializations}
use Rattle.regions.proofs.region_at.Given as goal

-- the cursor stands behind the first rows, their regions are counted, and region k is none of them
abbrev pub invariant-loop : goal.invariant-loop
invariant-loop l =
    let rows = before l.counter (sheet_initializations l.s.bytes.now) in
    (l.c ≡ cursor_at l.s.bytes.now ((head_of l.s.bytes.now).platforms + l.counter)) × (l.seen ≡ region_count rows l.given) × (region_at rows l.given l.k ≡ none)
