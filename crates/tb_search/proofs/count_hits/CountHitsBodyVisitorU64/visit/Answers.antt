use Rattle.std.proofs.Common.{refl, ◌≡◌, ◌≤◌, ◌+◌, ◌∙◌, length, sym, ap, subst, rules}
use Rattle.std.proofs.lemmas.Result.{err_from_is_err_and}
use Rattle.tb_conllu.specs.Text.{BlockText}
use Rattle.tb_conllu.specs.Words.{words_of}
use Rattle.tb_query.specs.Search.{AreHitsIn}
use Rattle.tb_search.specs.declared.searcher.SentenceSearcher.{SentenceSearcher}
use Rattle.tb_search.specs.declared.count_hits.CountHits.{CountHits}
use Rattle.tb_search.proofs.Found.{as_many, few_words}
use Rattle.tb_search.proofs.Walking.{err_is}
use Rattle.tb_search.proofs.count_hits.CountHitsBodyVisitorU64.visit.Goals as goal

pub returns-clause-taken : goal.returns-clause-taken
returns-clause-taken c b is =
    let v : CountHits = c.args.self.now in
    let hits = c.in_ok-hits.hits.items in
    let same : c.in_ok-block.block ≡ b = c.in_ok-block.ensures.read b is.0 in
    let many : c.in_ok-total.total ≡ c.args.filled.now + length hits = search rules in (
      hits,
      subst (λ (x : BlockText). AreHitsIn v.seeker.strategy v.seeker.searcher.asked x hits) same c.in_ok-hits.ensures.hits,
      (ap (λ (s : SentenceSearcher). record { seeker = s }) c.hits.ensures.unchanged, many ∙ ap (λ n. c.args.filled.now + n) (sym (as_many b hits))),
    )

pub returns-in_err-block-clause-stopped : goal.returns-in_err-block-clause-stopped
returns-in_err-block-clause-stopped c =
    let reported = err_from_is_err_and c.from_residual.result c.from_residual.ensures.1 in
    err_is _ _ _ reported.0 reported.1 reported.2 (c.if-not-may_hit.ensures.all refl, λ b is. c.in_err-block.ensures.fault b is.0)

pub returns-in_err-hits-clause-stopped : goal.returns-in_err-hits-clause-stopped
returns-in_err-hits-clause-stopped c =
    let reported = err_from_is_err_and c.from_residual-in_err-hits.result c.from_residual-in_err-hits.ensures.1 in
    err_is _ _ _ reported.0 reported.1 reported.2 (c.if-not-may_hit.ensures.all refl, λ b is. c.in_err-hits.ensures.fault (subst (λ (x : BlockText). words_of x ≤ 1000) (sym (c.in_ok-block.ensures.read b is.0)) (few_words b is.1)))

pub returns-in_err-total-clause-stopped : goal.returns-in_err-total-clause-stopped
returns-in_err-total-clause-stopped c =
    let reported = err_from_is_err_and c.from_residual-in_err-total.result c.from_residual-in_err-total.ensures.1 in
    err_is _ _ _ reported.0 reported.1 reported.2 (c.if-not-may_hit.ensures.all refl, λ b is. c.in_err-total.ensures.fault)
