use Rattle.std.proofs.Common.{refl, ◌≤◌, ◌≡◌, ◌++◌, map, sym, ap, subst, ◌∙◌, rules}
use Rattle.std.proofs.lemmas.Result.{err_from_is_err_and}
use Rattle.tb_conllu.specs.Text.{BlockText}
use Rattle.tb_conllu.specs.Words.{words_of}
use Rattle.tb_query.specs.Search.{AreHitsIn}
use Rattle.tb_report.specs.Keywords.{key_of}
use Rattle.tb_report.specs.Tables.{IsTableOf}
use Rattle.tb_search.specs.declared.searcher.SentenceSearcher.{SentenceSearcher}
use Rattle.tb_search.specs.declared.count_keys.CountKeys.{CountKeys}
use Rattle.tb_search.proofs.Found.{keys_are, few_words}
use Rattle.tb_search.proofs.Visiting.{if_put, if_cut}
use Rattle.tb_search.proofs.Walking.{err_is}
use Rattle.tb_search.proofs.count_keys.CountKeysBodyVisitorFreq.visit.Goals as goal

pub returns-clause-taken : goal.returns-clause-taken
returns-clause-taken c = if_put c.count_hits.result (λ reported b is.
    let v : CountKeys = c.args.self.now in
    let hits = c.in_ok-hits.hits.items in
    let same : c.in_ok-block.block ≡ b = c.in_ok-block.ensures.read b is.0 in
    let listed : c.as_slice.result.now ≡ hits = search rules in (
      hits,
      subst (λ (x : BlockText). AreHitsIn v.seeker.strategy v.seeker.searcher.asked x hits) same c.in_ok-hits.ensures.hits,
      (
        ap (λ (s : SentenceSearcher). record { seeker = s; column = v.column }) c.hits.ensures.unchanged,
        λ ks are. subst (λ l. IsTableOf (ks ++ l) c.count_hits.new.table) (ap (map (key_of v.column c.in_ok-block.block)) listed ∙ ap (λ (x : BlockText). map (key_of v.column x) hits) same ∙ sym (keys_are v.column b hits)) (reported ks are),
      ),
    )) c.count_hits.ensures.counted

pub returns-in_err-block-clause-stopped : goal.returns-in_err-block-clause-stopped
returns-in_err-block-clause-stopped c =
    let reported = err_from_is_err_and c.from_residual.result c.from_residual.ensures.1 in
    err_is _ _ _ reported.0 reported.1 reported.2 (c.if-not-may_hit.ensures.all refl, λ b is. c.in_err-block.ensures.fault b is.0)

pub returns-in_err-hits-clause-stopped : goal.returns-in_err-hits-clause-stopped
returns-in_err-hits-clause-stopped c =
    let reported = err_from_is_err_and c.from_residual-in_err-hits.result c.from_residual-in_err-hits.ensures.1 in
    err_is _ _ _ reported.0 reported.1 reported.2 (c.if-not-may_hit.ensures.all refl, λ b is. c.in_err-hits.ensures.fault (subst (λ (x : BlockText). words_of x ≤ 1000) (sym (c.in_ok-block.ensures.read b is.0)) (few_words b is.1)))

pub returns-clause-stopped : goal.returns-clause-stopped
returns-clause-stopped c = if_cut c.count_hits.result (λ e fault. (c.if-not-may_hit.ensures.all refl, λ b is. fault)) c.count_hits.ensures.fault
