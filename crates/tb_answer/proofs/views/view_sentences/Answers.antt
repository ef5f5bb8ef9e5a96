use Rattle.std.proofs.Common.{inl, inr, refl}
use Rattle.tb_answer.proofs.Failing.{at_err}
use Rattle.tb_answer.proofs.OrReply.{batch_there, batch_told, err_each, made_err, made_ok}
use Rattle.tb_answer.proofs.Questioned.{only_asked}
use Rattle.tb_answer.proofs.views.view_sentences.Goals as goal

pub returns-clause-read : goal.returns-clause-read
returns-clause-read g c = record {
  answered = λ clean. made_ok c.sentences.result c.text_or_reply.result c.text_or_reply.ensures (c.sentences.ensures.answered clean) (λ sentences v are is s stands. (sentences.items, are s stands, is));
  reported = λ clean. err_each _ _ c.text_or_reply.result (λ s stands.
      let bad = c.sentences.ensures.bad_name in
      made_err _ _ c.sentences.result c.text_or_reply.result c.text_or_reply.ensures
      (batch_told s c.args.name.now c.sentences.result (at_err _ _ c.sentences.result (c.sentences.ensures.refused clean) s stands) bad (c.sentences.ensures.question.fails clean s stands) (c.sentences.ensures.question.cause clean s stands) c.sentences.ensures.output)
      (λ sentences is. inr (inl refl, batch_there c.args.name.now c.sentences.result sentences is bad)));
  read_only = only_asked c.sentences.ensures.question;
}
