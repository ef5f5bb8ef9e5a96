use Rattle.std.proofs.Common.{lit<, refl}
use Rattle.tb_words.proofs.QueryPatterns.{between_single}
use Rattle.tb_words.proofs.patterns.inside.Goals as goal

pub returns-in-Some : goal.returns-in-Some
returns-in-Some c = (34, refl, c.in-Some.ensures (lit< tt))

pub returns-in-None : goal.returns-in-None
returns-in-None c = between_single c.args.literal.now c.between-in-None.result (c.between-in-None.ensures (lit< tt))
