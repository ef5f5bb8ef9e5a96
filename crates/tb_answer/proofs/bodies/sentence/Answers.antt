use Rattle.std.proofs.Common.{◌∙◌, ap}
use Rattle.tb_answer.specs.Asked.{or_reply}
use Rattle.tb_answer.proofs.OrReply.{err_each, sentence_told, or_reply_as_err, or_reply_as_ok}
use Rattle.tb_answer.proofs.Questioned.{only_asked}
use Rattle.tb_answer.proofs.bodies.sentence.Goals as goal

pub returns : goal.returns
returns g c = record {
  read = record {
    answered = λ clean. or_reply_as_ok _ c.sentence.result c.or_reply.result c.or_reply.ensures (c.sentence.ensures.answered clean);
    reported = λ clean. err_each _ _ c.or_reply.result (λ s stands.
        or_reply_as_err _ c.sentence.result c.or_reply.result c.or_reply.ensures
        (sentence_told s c.args.number c.sentence.result c.sentence.ensures.alone (c.sentence.ensures.refused s stands) (c.sentence.ensures.question.fails clean s stands) (c.sentence.ensures.question.cause clean s stands) c.sentence.ensures.output));
    read_only = only_asked c.sentence.ensures.question;
  };
  missing = λ s stands none. c.or_reply.ensures ∙ ap or_reply ((c.sentence.ensures.refused s stands).1 none);
}
