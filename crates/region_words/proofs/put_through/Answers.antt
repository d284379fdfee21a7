use Rattle.rows.proofs.Kit.{◌≡◌, ◌∙◌, ◌≤◌, ℕ, List, ap, arith, refl}
use Rattle.std.proofs.lemmas.List.{length-replicate}
use Rattle.sheet.{specs.declared.SheetHead.SheetHead, specs.Head.head_of}
use Rattle.rules.specs.Relocations.{region_count}
use Rattle.answers.specs.Relocations.{sheet_initializations}
use Rattle.region_words.proofs.{WalkLaws.{regions_within, copied}}
use Rattle.region_words.proofs.put_through.Goals as goal

-- a mask has no more regions than there are rows
within : (s : List ℕ) (head : SheetHead) (given : ℕ) → head ≡ head_of s → region_count (sheet_initializations s) given ≤ head.initializations
within s head given e = let same = ap (λ (y : SheetHead). y.initializations) e in regions_within s given head.initializations (omega arith)

pub collect-put-requires : goal.collect-put-requires
collect-put-requires g c =
    let (most, small) = c.requires in
    let few = within c.args.s.now.bytes.now c.args.s.now.head c.args.given c.args.s.now.head_is in
    rw length-replicate (omega arith)

pub overflow_mul-put : goal.overflow_mul-put
overflow_mul-put g c =
    let (most, small) = c.requires in
    let few = within c.args.s.now.bytes.now c.args.s.now.head c.args.given c.args.s.now.head_is in
    let count = c.collect-put.ensures.table_value.1 in
    omega arith

pub put_bytes-requires : goal.put_bytes-requires
put_bytes-requires g c =
    let (most, small) = c.requires in
    let few = within c.args.s.now.bytes.now c.args.s.now.head c.args.given c.args.s.now.head_is in
    let count = c.collect-put.ensures.table_value.1 in
    let held = c.collect-put.auto.words ∙ length-replicate _ _ in
    (omega arith, omega arith)

pub returns-then-words-put : goal.returns-then-words-put
returns-then-words-put g c = let (table, count) = c.collect-put.ensures.table_value in (rw (← count) c.if-words-put.true, refl)

pub returns : goal.returns
returns g c =
    let k = c.collect-put in
    let (most, small) = c.requires in
    let few = within c.args.s.now.bytes.now c.args.s.now.head c.args.given c.args.s.now.head_is in
    let (table, count) = k.ensures.table_value in
    (rw (← count) c.if-words-put.false, table, count, copied _ _ _ _ _ _ _ (rw length-replicate (omega arith)) k.ensures.words_after count c.put_bytes.ensures)
