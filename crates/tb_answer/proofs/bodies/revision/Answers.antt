use Rattle.std.proofs.Common.{◌∙◌, ap}
use Rattle.tb_answer.specs.Asked.{or_reply}
use Rattle.tb_answer.proofs.Failing.{at_err}
use Rattle.tb_answer.proofs.OrReply.{err_each, revision_told, or_reply_as_err, or_reply_as_ok}
use Rattle.tb_answer.proofs.Questioned.{only_asked}
use Rattle.tb_answer.proofs.bodies.revision.Goals as goal

pub returns : goal.returns
returns g c = record {
  read = record {
    answered = λ clean. or_reply_as_ok _ c.revision.result c.or_reply.result c.or_reply.ensures (c.revision.ensures.answered clean);
    reported = λ clean. err_each _ _ c.or_reply.result (λ s stands.
        or_reply_as_err _ c.revision.result c.or_reply.result c.or_reply.ensures
        (revision_told s c.args.number c.args.rev c.revision.result (at_err _ _ c.revision.result (c.revision.ensures.refused clean) s stands) (c.revision.ensures.no_sentence s stands)
        (c.revision.ensures.question.fails clean s stands) (c.revision.ensures.question.cause clean s stands) c.revision.ensures.output));
    read_only = only_asked c.revision.ensures.question;
  };
  missing = λ s stands none. c.or_reply.ensures ∙ ap or_reply (c.revision.ensures.no_sentence s stands none);
}
