use Rattle.std.proofs.Common.{◌∙◌, Ok, ap, subst, sym}
use Rattle.tb_answer.specs.Found.{IsAllowed}
use Rattle.tb_answer.proofs.Failing.{if_ok}
use Rattle.tb_answer.proofs.Questioned.{unread}
use Rattle.tb_answer.proofs.finding.limited.Goals as goal

pub returns-in-Ok-clause-allowed : goal.returns-in-Ok-clause-allowed
returns-in-Ok-clause-allowed g c clean = if_ok c.within_limit.result (c.within_limit.ensures.limited.allowed clean) (λ q it.
    (c.in-Ok.is ∙ ap (λ x. Ok x) (sym it.0), λ s stands. subst (λ x. IsAllowed c.args.desk.now.limits s x c.args.strategy) (sym it.0) (it.1 s stands)))

pub returns-in-Ok-clause-read_only : goal.returns-in-Ok-clause-read_only
returns-in-Ok-clause-read_only g c = c.within_limit.ensures.limited.read_only

pub returns-in-Err-clause-read_only : goal.returns-in-Err-clause-read_only
returns-in-Err-clause-read_only g c = unread g.S.Store c.args.desk.now
