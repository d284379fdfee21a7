use Rattle.rows.proofs.Kit.{refl, cond, ℕ, eqb}
use Rattle.igvm_defs.specs.declared.Kind as declared
use Rattle.igvm_defs.specs.{declared.RowList.RowList, declared.RowList.TheVariants.{NoList, Platform, Initialization, Directive}, Kinds.{kind_of, kind_says, spans, no_entry}}
use Rattle.igvm_defs.proofs.{Table.{tabulate, said_at}}
use Rattle.igvm_defs.proofs.kinds.Goals as goal

-- the entry that says what the table says of a kind
list_of : ℕ → RowList
list_of n = cond (eqb n 1) Platform (cond (eqb n 2) Initialization (cond (eqb n 3) Directive NoList))

entry_of : ℕ → declared.Kind
entry_of k = let t = kind_of k in record { list = list_of t.list; least = t.least; exact = t.exact }

pub returns : goal.returns
unfolding kind_of spans kind_says list_of entry_of
returns c k h = said_at kind_of kind_says (tabulate entry_of 54 0) no_entry 54 k refl h
