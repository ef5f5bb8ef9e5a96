use Rattle.std.proofs.Common.{rules}
use Rattle.tb_search.proofs.Found.{hits_lie}
use Rattle.tb_search.proofs.searcher.SentenceSearcher.hits.Goals as goal

pub returns-clause-lie : goal.returns-clause-lie
returns-clause-lie c = hits_lie c.args.self.now.strategy c.args.self.now.searcher.asked c.args.block.now _ (search rules)
