use Rattle.std.proofs.Common.{◌≡◌}
use Rattle.tb_words.specs.Circles.{steps_from}
use Rattle.tb_words.proofs.circles.after.Given as goal

abbrev pub invariant-loop : goal.invariant-loop
invariant-loop l = l.here ≡ steps_from l.heads l.counter l.word
