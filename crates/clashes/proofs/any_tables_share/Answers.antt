use Rattle.rows.{proofs.Kit.{sym, not-true}, proofs.BelowLaws.{none_any}}
use Rattle.clashes.proofs.any_tables_share.Goals as goal

pub returns-then-not-r : goal.returns-then-not-r
returns-then-not-r g c = sym ((none_any c.args.held.now.count _).1 (λ i l. rw (not-true c.args.r.page_table c.if-not-r.true)))
