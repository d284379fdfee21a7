use Rattle.rows.proofs.Kit.{arith, ◌∙◌, length-set}
use Rattle.line.specs.Bytes.{text_long}
use Rattle.line.proofs.ByteLaws.{zeros_behind}
use Rattle.line.proofs.Line.push.Goals as goal

pub invariant_of-self : goal.invariant_of-self
invariant_of-self c =
    let (fits, long, zeros) = c.self.invariant in
    (omega (arith, rw (← c.self.view_is) at c.requires, text_long _ _ c.self.invariant), length-set _ _ _ ∙ long, zeros_behind _ _ _ zeros)
