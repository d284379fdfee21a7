use Rattle.region_words.proofs.{WalkLaws.{Walked}}
use Rattle.region_words.proofs.collect.Given as goal

abbrev pub invariant-loop : goal.invariant-loop
invariant-loop l = Walked l.s.bytes.now l.given l.initial.words l.words l.c l.found l.count l.counter
