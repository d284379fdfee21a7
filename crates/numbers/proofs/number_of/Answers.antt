use Rattle.rows.proofs.Kit.{arith}
use Rattle.std.proofs.lemmas.{Grind.common_steps, Option.gets}
use Rattle.answers.specs.Numbers.{number_of}
use Rattle.numbers.proofs.number_of.Goals as goal

pub returns-in-Some : goal.returns-in-Some
unfolding number_of
returns-in-Some c = grind (arith, common_steps, gets)

pub returns-in-None : goal.returns-in-None
unfolding number_of
returns-in-None c = grind (arith, common_steps, gets)
