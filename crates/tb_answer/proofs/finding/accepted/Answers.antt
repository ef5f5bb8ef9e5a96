use Rattle.std.proofs.Common.{Err, IfErr, IfOk, inl, inr, subst, sym}
use Rattle.tb_query.specs.Reading.{IsQuery}
use Rattle.tb_answer.specs.Found.{IsQueryReply}
use Rattle.tb_answer.proofs.Failing.{at_err, if_err, if_ok}
use Rattle.tb_answer.proofs.Handed.{then_err}
use Rattle.tb_answer.proofs.OrReply.{err_each}
use Rattle.tb_answer.proofs.finding.accepted.Goals as goal

pub returns-clause-read : goal.returns-clause-read
returns-clause-read g c = record {
  answered = λ clean. if_ok c.limited.result (c.limited.ensures.allowed clean) (λ q it s stands.
      (subst (λ r. IfOk r (λ x. IsQuery c.args.text.now x)) it.0 c.read_query.ensures.query, it.1 s stands));
  reported = λ clean. err_each _ _ c.limited.result (λ s stands.
      then_err c.read_query.result c.limited.result (if_err c.read_query.result c.limited.ensures.unread (λ r it. it.0)) (if_err c.read_query.result c.read_query.ensures.reported (λ r it. inl it))
      c.read_query.ensures.query (if_ok c.read_query.result c.limited.ensures.reported (λ q h. at_err _ _ c.limited.result (h clean) s stands)) (λ q r is it. inr (q, is, it)));
  read_only = c.limited.ensures.read_only;
}

pub returns-clause-unasked : goal.returns-clause-unasked
returns-clause-unasked g c other =
    let none = c.limited.ensures.unasked other in
    (none.0, subst (λ r. IfErr r (λ x. IsQueryReply c.args.text.now x)) (sym none.1) c.read_query.ensures.reported)
