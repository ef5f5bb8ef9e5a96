use Rattle.std.proofs.Common.{◌∙◌, inl, refl}
use Rattle.tb_answer.proofs.Texts.{totals_are}
use Rattle.tb_answer.proofs.OrReply.{err_each, failure_told, made_err, made_ok, store_failure_told}
use Rattle.tb_answer.proofs.Questioned.{only_asked}
use Rattle.tb_answer.proofs.bodies.totals.Goals as goal

pub returns-clause-read : goal.returns-clause-read
returns-clause-read g c = record {
  answered = λ clean. made_ok c.totals.result c.text_or_reply.result c.text_or_reply.ensures (c.totals.ensures.answered clean) (λ totals v are is s stands. is ∙ totals_are totals s (are s stands));
  reported = λ clean. err_each _ _ c.text_or_reply.result (λ s stands.
      made_err _ _ c.totals.result c.text_or_reply.result c.text_or_reply.ensures
      (failure_told c.totals.result c.totals.ensures.never_refuses (c.totals.ensures.question.fails clean s stands) (c.totals.ensures.question.cause clean s stands) c.totals.ensures.output) (λ totals is. inl refl));
  read_only = only_asked c.totals.ensures.question;
}

pub returns-clause-unrefused : goal.returns-clause-unrefused
returns-clause-unrefused g c =
    made_err _ _ c.totals.result c.text_or_reply.result c.text_or_reply.ensures (store_failure_told c.totals.result c.totals.ensures.never_refuses) (λ totals is. inl (inl refl))
