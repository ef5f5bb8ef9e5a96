use Rattle.std.proofs.Common.{inl, inr, refl}
use Rattle.tb_answer.proofs.Failing.{at_err}
use Rattle.tb_answer.proofs.OrReply.{err_each, id_told, made_err, made_ok}
use Rattle.tb_answer.proofs.Questioned.{only_asked}
use Rattle.tb_answer.proofs.views.view_found.Goals as goal

pub returns : goal.returns
returns g c = record {
  answered = λ clean. made_ok c.find.result c.text_or_reply.result c.text_or_reply.ensures (c.find.ensures.answered clean) (λ found v are is s stands. (found, are s stands, is));
  reported = λ clean. err_each _ _ c.text_or_reply.result (λ s stands.
      made_err _ _ c.find.result c.text_or_reply.result c.text_or_reply.ensures
      (id_told s c.args.sent_id.now c.find.result (at_err _ _ c.find.result (c.find.ensures.refused clean) s stands) (c.find.ensures.question.fails clean s stands) (c.find.ensures.question.cause clean s stands) c.find.ensures.output)
      (λ found is. inr (inl refl)));
  read_only = only_asked c.find.ensures.question;
}
