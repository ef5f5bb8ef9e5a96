use Rattle.std.proofs.Common.{◌≤◌, inl, inr, ◌≡◌, ◌+◌, ◌∙◌, length, refl, sym, ap, subst, rules}
use Rattle.std.proofs.lemmas.Result.{err_from_is_err_and}
use Rattle.std.specs.Io.KnownBytes.{Appends}
use Rattle.tb_conllu.specs.Text.{BlockText}
use Rattle.tb_conllu.specs.Words.{words_of}
use Rattle.tb_query.specs.Search.{AreHitsIn}
use Rattle.tb_search.specs.declared.write_kwic.WriteKwic.{WriteKwic}
use Rattle.tb_search.specs.Searched.{lines, occurrences}
use Rattle.tb_search.proofs.Found.{as_many, few_words, has_name, cut_met}
use Rattle.tb_search.proofs.Walking.{err_is}
use Rattle.tb_search.proofs.write_kwic.WriteKwicBodyVisitor.visit.Goals as goal

pub returns-clause-taken : goal.returns-clause-taken
returns-clause-taken g c b is =
    let held = g.W.Sink.held in
    let v : WriteKwic = c.args.self.now in
    let hits = c.in_ok-hits.hits.items in
    let same : c.in_ok-block.block ≡ b = c.in_ok-block.ensures.read b is.0 in
    let listed : c.as_slice.result.now ≡ hits = search rules in
    let many : c.in_ok-found.found ≡ v.found + length hits = search rules in (
      hits,
      subst (λ (x : BlockText). AreHitsIn v.seeker.strategy v.seeker.searcher.asked x hits) same c.in_ok-hits.ensures.hits,
      (
        c.hits.ensures.unchanged,
        refl,
        many ∙ ap (λ n. v.found + n) (sym (as_many b hits)),
        subst (λ l. Appends (held c.args.filled.now) (held c.put_hits.new.out) (lines v.context l)) (ap (occurrences c.in_ok-block.block) listed ∙ ap (λ (x : BlockText). occurrences x hits) same) c.in_ok-put_hits.ensures.put,
      ),
    )

pub returns-in_err-block-clause-stopped : goal.returns-in_err-block-clause-stopped
returns-in_err-block-clause-stopped g c =
    let reported = err_from_is_err_and c.from_residual.result c.from_residual.ensures.1 in
    err_is _ _ _ reported.0 reported.1 reported.2 (c.if-not-may_hit.ensures.all refl, (λ b is. c.in_err-block.ensures.fault b is.0), inl refl)

pub returns-in_err-hits-clause-stopped : goal.returns-in_err-hits-clause-stopped
returns-in_err-hits-clause-stopped g c =
    let reported = err_from_is_err_and c.from_residual-in_err-hits.result c.from_residual-in_err-hits.ensures.1 in
    err_is _ _ _ reported.0 reported.1 reported.2 (c.if-not-may_hit.ensures.all refl, (λ b is. c.in_err-hits.ensures.fault (subst (λ (x : BlockText). words_of x ≤ 1000) (sym (c.in_ok-block.ensures.read b is.0)) (few_words b is.1))), inl refl)

pub returns-in_err-found-clause-stopped : goal.returns-in_err-found-clause-stopped
returns-in_err-found-clause-stopped g c =
    let reported = err_from_is_err_and c.from_residual-in_err-found.result c.from_residual-in_err-found.ensures.1 in
    err_is _ _ _ reported.0 reported.1 reported.2 (c.if-not-may_hit.ensures.all refl, (λ b is. c.in_err-found.ensures.fault), inl refl)

pub returns-in_err-name-clause-stopped : goal.returns-in_err-name-clause-stopped
returns-in_err-name-clause-stopped g c =
    let reported = err_from_is_err_and c.from_residual-in_err-name.result c.from_residual-in_err-name.ensures.1 in
    err_is _ _ _ reported.0 reported.1 reported.2 (c.if-not-may_hit.ensures.all refl, (λ b is. absurd (has_name b c.in_ok-block.block (c.in_ok-block.ensures.read b is.0) is.1 c.in_err-name.ensures.none.1)), inl refl)

pub returns-in_err-put_hits-clause-stopped : goal.returns-in_err-put_hits-clause-stopped
returns-in_err-put_hits-clause-stopped g c =
    let held = g.W.Sink.held in
    let v : WriteKwic = c.args.self.now in
    let listed : c.as_slice.result.now ≡ c.in_ok-hits.hits.items = search rules in
    let reported = err_from_is_err_and c.from_residual-in_err-put_hits.result c.from_residual-in_err-put_hits.ensures.1 in
    err_is _ _ _ reported.0 reported.1 reported.2 (c.if-not-may_hit.ensures.all refl, (λ b is. c.in_err-put_hits.ensures.fault), inr (cut_met v.seeker.strategy v.seeker.searcher.asked _ _ (held c.args.filled.now) (held c.put_hits.new.out) v.context c.in_ok-block.block c.in_ok-hits.hits.items c.as_slice.result.now listed c.in_ok-hits.ensures.hits c.in_err-put_hits.ensures.cut (λ b is. c.in_ok-block.ensures.read b is.0)))
