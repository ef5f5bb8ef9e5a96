use Rattle.std.proofs.Common.{◌∙◌, ap, inl, refl}
use Rattle.tb_lists.specs.Csv.{batches_csv}
use Rattle.tb_answer.proofs.OrReply.{err_each, failure_told, made_err, made_ok}
use Rattle.tb_answer.proofs.Questioned.{only_asked}
use Rattle.tb_answer.proofs.views.view_batches.Goals as goal

pub returns : goal.returns
returns g c = record {
  answered = λ clean. made_ok c.batches.result c.text_or_reply.result c.text_or_reply.ensures (c.batches.ensures.answered clean) (λ batches v are is s stands. is ∙ ap batches_csv (are s stands));
  reported = λ clean. err_each _ _ c.text_or_reply.result (λ s stands.
      made_err _ _ c.batches.result c.text_or_reply.result c.text_or_reply.ensures
      (failure_told c.batches.result c.batches.ensures.never_refuses (c.batches.ensures.question.fails clean s stands) (c.batches.ensures.question.cause clean s stands) c.batches.ensures.output) (λ batches is. inl refl));
  read_only = only_asked c.batches.ensures.question;
}
