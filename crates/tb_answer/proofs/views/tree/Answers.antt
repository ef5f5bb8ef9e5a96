use Rattle.std.proofs.Common.{inl, inr, refl, string_bytes}
use Rattle.tb_core.specs.declared.refusals.Refusal.TheVariants.{NoSuchSentence}
use Rattle.tb_answer.proofs.OrReply.{err_each, made_err, made_ok, made_refused, sentence_there, sentence_told}
use Rattle.tb_answer.proofs.Questioned.{only_asked}
use Rattle.tb_answer.proofs.views.tree.Goals as goal

pub returns : goal.returns
returns g c = record {
  read = record {
    answered = λ clean. made_ok c.sentence.result c.tree_or_reply.result c.tree_or_reply.ensures (c.sentence.ensures.answered clean) (λ current v are is s stands. (current.rev, string_bytes current.body, are s stands, is));
    reported = λ clean. err_each _ _ c.tree_or_reply.result (λ s stands.
        let refused = c.sentence.ensures.refused s stands in
        made_err _ _ c.sentence.result c.tree_or_reply.result c.tree_or_reply.ensures
        (sentence_told s c.args.number c.sentence.result c.sentence.ensures.alone refused (c.sentence.ensures.question.fails clean s stands) (c.sentence.ensures.question.cause clean s stands) c.sentence.ensures.output)
        (λ current is. inr (inl refl, sentence_there s c.args.number c.sentence.result current is refused)));
    read_only = only_asked c.sentence.ensures.question;
  };
  missing = λ s stands none. made_refused _ c.sentence.result c.tree_or_reply.result NoSuchSentence c.tree_or_reply.ensures ((c.sentence.ensures.refused s stands).1 none);
}
