use Rattle.tb_rules.proofs.Kept.{only_memory}
use Rattle.tb_rules.proofs.sentences.SentenceChecker.check.Goals as goal

pub returns-clause-only : goal.returns-clause-only
returns-clause-only g c = λ k. only_memory c.args.block.now c.first_broken.result c.first_broken.ensures.fault k
