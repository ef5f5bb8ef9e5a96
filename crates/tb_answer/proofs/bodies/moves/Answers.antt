use Rattle.std.proofs.Common.{◌≡◌, ◌∙◌, ap, inl, refl}
use Rattle.tb_report.specs.Csv.{moves_csv}
use Rattle.tb_answer.proofs.OrReply.{err_each, failure_told, made_err, made_ok, store_failure_told}
use Rattle.tb_answer.proofs.Questioned.{only_asked}
use Rattle.tb_answer.proofs.bodies.moves.Goals as goal

pub returns-clause-read : goal.returns-clause-read
returns-clause-read g c = record {
  answered = λ clean. made_ok c.moves.result c.text_or_reply.result c.text_or_reply.ensures (c.moves.ensures.answered clean) (λ moves v are is s stands. is ∙ ap moves_csv (are s stands));
  reported = λ clean. err_each _ _ c.text_or_reply.result (λ s stands.
      made_err _ _ c.moves.result c.text_or_reply.result c.text_or_reply.ensures
      (failure_told c.moves.result c.moves.ensures.never_refuses (c.moves.ensures.question.fails clean s stands) (c.moves.ensures.question.cause clean s stands) c.moves.ensures.output) (λ moves is. inl refl));
  read_only = only_asked c.moves.ensures.question;
}

pub returns-clause-unrefused : goal.returns-clause-unrefused
returns-clause-unrefused g c =
    made_err _ _ c.moves.result c.text_or_reply.result c.text_or_reply.ensures (store_failure_told c.moves.result c.moves.ensures.never_refuses) (λ moves is. inl (inl refl))
