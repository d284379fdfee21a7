use Rattle.rows.{proofs.Kit.{◌∙◌}, proofs.Bools.byte_count}
use Rattle.answers.specs.Region.{region_check_of}
use Rattle.region_check.proofs.contains.Goals as goal

pub returns-in-Some : goal.returns-in-Some
unfolding region_check_of
returns-in-Some c = byte_count c.contains.result ∙ rw (c.contains.ensures, ← c.in-Some.ensures)

pub returns-in-None : goal.returns-in-None
unfolding region_check_of
returns-in-None c = rw (← c.in-None.ensures)
