use Rattle.std.proofs.Common.{◌≡◌, ap, ◌∙◌, subst}
use Rattle.std.proofs.lemmas.Result.{IfOk-weaker}
use Rattle.tb_match.specs.Hits.{AreHits, IsFound}
use Rattle.tb_match.specs.Trees.{Tree, tree}
use Rattle.tb_query.specs.Search.{Asked}
use Rattle.tb_query.proofs.Alike.{found_there}
use Rattle.tb_query.proofs.searcher.Searcher.hits.Goals as goal

pub returns-clause-hits : goal.returns-clause-hits
returns-clause-hits g c =
    let truth = c.in_ok-truth.truth in
    let query = c.args.self.now in
    let pat : tree c.self.inside.pat.now ≡ query.pat = ap (λ (q : Asked). q.pat) (c.self.view_is ∙ c.in_ok-truth.ensures.unchanged) in
    IfOk-weaker c.find.result _ _
    (λ f h. found_there truth query c.args.block.now c.in_ok-truth.ensures.truth c.args.strategy f.hits.items
    (subst (λ (p : Tree). AreHits c.args.strategy (IsFound truth p) f.hits.items) pat h))
    c.find.ensures.hits
