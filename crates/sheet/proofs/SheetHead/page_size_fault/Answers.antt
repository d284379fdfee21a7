use Rattle.igvm_defs.proofs.AnswerLaws.{told_if}
use Rattle.sheet.specs.Head.{page_size_fault}
use Rattle.sheet.proofs.SheetHead.page_size_fault.Goals as goal

pub returns : goal.returns
unfolding page_size_fault
returns c = rw (← c.revision.ensures, ← c.page_size-size.ensures) (told_if c.refuse_if.result _ _ _ c.refuse_if.ensures)
