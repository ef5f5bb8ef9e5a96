use Rattle.tb_words.specs.QueryPlaces.{AreRight, braces_of}
use Rattle.tb_words.proofs.queries.repetition.Given as goal

abbrev pub invariant-loop-at : goal.invariant-loop-at
invariant-loop-at l = AreRight l.text (braces_of l.literals l.yielded)
