use Rattle.numbers.proofs.tell_verdict.Goals as goal

pub returns : goal.returns
returns c =
    record { value = c.verdict_number.ensures; lent_after = rw (← c.verdict_numbers-numbers.ensures) c.put_numbers.ensures }
