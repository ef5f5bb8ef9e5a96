use Rattle.std.proofs.Common.{◌≡◌, ◌<◌, ◌++◌, ◌∷◌, [], ℕ, List, ap, subst, sym, ◌∙◌}
use Rattle.std.proofs.lemmas.Result.{on_ok_weaker}
use Rattle.tb_conllu.specs.Text.{BlockText}
use Rattle.tb_report.specs.Keywords.{key_of}
use Rattle.tb_report.specs.Tables.{count_in, IsTableOf}
use Rattle.tb_search.proofs.count_keys.count_hit.Goals as goal

pub returns-in-Some-clause-counted : goal.returns-in-Some-clause-counted
returns-in-Some-clause-counted c =
    on_ok_weaker c.count_key.result (λ counted keys are. subst (λ (k : List ℕ). IsTableOf (keys ++ k ∷ []) c.count_key.new.table) c.in-Some.ensures.key (counted keys are)) c.count_key.ensures.counted

pub returns-in-Some-clause-known : goal.returns-in-Some-clause-known
returns-in-Some-clause-known c one above room =
    c.count_key.ensures.known (subst (λ (k : List ℕ). 0 < count_in c.args.table.now k) (sym c.in-Some.ensures.key) above)

pub returns-clause-counted : goal.returns-clause-counted
returns-clause-counted c keys are =
    let same : c.sentence.result.now ≡ c.args.walk.now = c.sentence.ensures ∙ c.word_key.ensures.unchanged in
    let key = c.as_str.ensures.value ∙ c.in_ok-key.ensures ∙ ap (λ (b : BlockText). key_of c.args.column b c.args.hit) same in
    subst (λ (k : List ℕ). IsTableOf (keys ++ k ∷ []) c.count_key-2.new.table) key (c.in_ok-count_key.ensures.counted keys are)
