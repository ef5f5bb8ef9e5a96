use Rattle.std.proofs.Common.{inl, inr, refl}
use Rattle.tb_core.specs.declared.refusals.Refusal.TheVariants.{NoSuchSentence}
use Rattle.tb_answer.proofs.OrReply.{err_each, made_err, made_ok, made_refused, sentence_there, sentence_told}
use Rattle.tb_answer.proofs.Questioned.{only_asked}
use Rattle.tb_answer.proofs.views.revisions.Goals as goal

pub returns : goal.returns
returns g c = record {
  read = record {
    answered = λ clean. made_ok c.revisions.result c.text_or_reply.result c.text_or_reply.ensures (c.revisions.ensures.answered clean) (λ revisions v are is s stands. (revisions.items, are s stands, is));
    reported = λ clean. err_each _ _ c.text_or_reply.result (λ s stands.
        let refused = c.revisions.ensures.refused s stands in
        made_err _ _ c.revisions.result c.text_or_reply.result c.text_or_reply.ensures
        (sentence_told s c.args.number c.revisions.result c.revisions.ensures.alone refused (c.revisions.ensures.question.fails clean s stands) (c.revisions.ensures.question.cause clean s stands) c.revisions.ensures.output)
        (λ revisions is. inr (inl refl, sentence_there s c.args.number c.revisions.result revisions is refused)));
    read_only = only_asked c.revisions.ensures.question;
  };
  missing = λ s stands none. made_refused _ c.revisions.result c.text_or_reply.result NoSuchSentence c.text_or_reply.ensures ((c.revisions.ensures.refused s stands).1 none);
}
