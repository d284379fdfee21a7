use Rattle.igvm.proofs.region_list.Goals as goal

pub returns : goal.returns
returns c =
    let found = c.relocations.ensures in let numbers = c.relocation_numbers-found.ensures in let told = c.tell.ensures in
    record { value = rw (← found.value, ← numbers) told.value; words_after = found.words_after; lent_after = rw (← found.value, ← numbers) told.lent_after }
