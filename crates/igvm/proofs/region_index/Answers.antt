use Rattle.igvm.proofs.region_index.Goals as goal

pub returns : goal.returns
returns c =
    let found = c.region_index.ensures in let numbers = c.answer_numbers-found.ensures in let told = c.tell.ensures in
    record { value = rw (← found.value, ← numbers) told.value; words_after = found.words_after; lent_after = rw (← found.value, ← numbers) told.lent_after }
