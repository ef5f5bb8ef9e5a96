use Rattle.std.proofs.Common.{map}
use Rattle.tb_words.specs.Keyed.{LacksKey}
use Rattle.tb_words.proofs.rules.keyed_in.Given as goal

abbrev pub invariant-loop-at : goal.invariant-loop-at
invariant-loop-at l = LacksKey l.key (map (λ c. c.now) l.comments) l.before l.at
