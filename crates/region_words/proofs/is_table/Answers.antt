use Rattle.rows.proofs.Kit.{sym, arith, ne_eqb}
use Rattle.igvm_defs.specs.Kinds.{kind_of, spans}
use Rattle.initialization_header.{specs.Initializations.initialization_of, proofs.InitializationLaws.kind_initialization}
use Rattle.regions.proofs.HeaderLaws.{not_page_table}
use Rattle.region_words.proofs.is_table.Goals as goal

pub returns-then-kind-ne19 : goal.returns-then-kind-ne19
returns-then-kind-ne19 c =
    let a = c.args in let b = a.b.now in
    sym ((not_page_table (initialization_of a.kind b) (rw (kind_initialization a.kind c.requires.0 b) (ne_eqb a.kind 19 c.if-kind-ne19.true))).0 a.given)

pub u32_at-requires : goal.u32_at-requires
unfolding kind_of spans
u32_at-requires c = let l = rw c.if-kind-ne19.false at c.requires.1 in omega arith

pub returns : goal.returns
unfolding initialization_of
returns c = rw (c.if-kind-ne19.false, ← c.u32_at.ensures) c.matches.ensures
