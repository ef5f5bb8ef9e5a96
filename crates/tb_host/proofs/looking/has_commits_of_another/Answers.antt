use Rattle.std.proofs.Common.{◌≡◌, ◌↔◌, ◌++◌, ℕ, List, codes, false, inl, subst}
use Rattle.std.proofs.lemmas.Result.{IfErr-weaker}
use Rattle.tb_host.specs.Contents.{MayBeOwnLog, own_log_limit}
use Rattle.tb_host.proofs.Handed.{weaker}
use Rattle.tb_host.proofs.looking.has_commits_of_another.Goals as goal

pub returns-clause-own : goal.returns-clause-own
returns-clause-own g c =
    weaker (λ has. (has ≡ false) ↔ MayBeOwnLog c.deref.result.now)
    (λ has. (x : List ℕ) × g.S.System.IsBeginning c.args.system.now (c.args.path.now ++ codes "-wal") own_log_limit x × ((has ≡ false) ↔ MayBeOwnLog x))
    c.has_commits.result c.has_commits.ensures.own
    (λ has own. (c.in_ok-bytes.bytes.items, c.in_ok-bytes.ensures.bytes, subst (λ x. (has ≡ false) ↔ MayBeOwnLog x) c.deref.ensures.value own))

pub returns-clause-cause : goal.returns-clause-cause
returns-clause-cause g c = IfErr-weaker c.has_commits.result _ _ (λ cause h. inl h) c.has_commits.ensures.failed
