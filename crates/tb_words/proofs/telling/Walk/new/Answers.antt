use Rattle.std.proofs.Common.{refl, rules}
use Rattle.tb_words.proofs.WalkSteps.{none_walked}
use Rattle.tb_words.proofs.telling.Walk.new.Goals as goal

pub returns-clause-at : goal.returns-clause-at
returns-clause-at c = (search rules, none_walked c.args.file.now _ (search rules) refl refl (search rules))
