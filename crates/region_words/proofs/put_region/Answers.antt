use Rattle.rows.proofs.Kit.{◌≡◌, sym, ◌∙◌, add-zero}
use Rattle.igvm_defs.specs.Kinds.{kind_of, spans}
use Rattle.sheet.proofs.Readable.{codes_18}
use Rattle.initialization_header.specs.Initializations.{initialization_of}
use Rattle.rules.specs.Relocations.{relocatable_of}
use Rattle.answers.specs.Relocations.{region_words}
use Rattle.region_words.proofs.{WordLaws.{region_kind, region_header}}
use Rattle.region_words.proofs.put_region.Goals as goal

pub words_of-requires : goal.words_of-requires
unfolding kind_of spans
words_of-requires c = let kind-known : (c.args.kind ≡ 18) = (region_kind c.args.given c.args.kind c.args.b.now c.requires.kind_value.0 (sym c.is_region.ensures ∙ c.if-is_region.true)) in let e = kind-known in
    let (vtl, flags) = codes_18 c.args.b.now (rw e at c.requires.kind_value.2) in
    (rw e at c.requires.kind_value.1, flags, vtl)

pub put_words-requires : goal.put_words-requires
put_words-requires c =
    c.requires.n_in_bounds (sym c.is_region.ensures ∙ c.if-is_region.true)

pub returns-then-is_region : goal.returns-then-is_region
returns-then-is_region c = let kind-known : (c.args.kind ≡ 18) = (region_kind c.args.given c.args.kind c.args.b.now c.requires.kind_value.0 (sym c.is_region.ensures ∙ c.if-is_region.true)) in let m = c.is_region.ensures in
    let t = c.if-is_region.true in
    let a = c.args in
    let e : region_words (relocatable_of (initialization_of a.kind a.b.now)) ≡ c.words_of.result =
    rw (kind-known, region_header a.b.now) (sym c.words_of.ensures) in
    record { value = rw (← m, t); words_after = rw (← m, t, e) c.put_words.ensures }

pub returns : goal.returns
returns c = let m = c.is_region.ensures in record { value = rw (← m, c.if-is_region.false) (sym (add-zero _)); words_after = rw (← m, c.if-is_region.false) }
