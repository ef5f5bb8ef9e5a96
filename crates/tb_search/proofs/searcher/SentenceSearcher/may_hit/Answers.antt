use Rattle.tb_search.proofs.searcher.SentenceSearcher.may_hit.Goals as goal

pub returns-clause-none : goal.returns-clause-none
returns-clause-none c = λ none. c.may_hit.ensures.none none c.args.self.now.strategy
