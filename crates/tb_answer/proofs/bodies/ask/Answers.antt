use Rattle.std.proofs.Common.{◌∙◌, inr, subst, sym}
use Rattle.tb_http.specs.declared.replies.Reply.TheVariants as reply
use Rattle.tb_core.specs.declared.refusals.Refusal.TheVariants.{NoSuchSentence}
use Rattle.tb_store.specs.Answers.{IsCurrent, IsRevisionText}
use Rattle.tb_answer.proofs.Failing.{if_err}
use Rattle.tb_answer.proofs.OrReply.{body_err, body_ok, body_refused}
use Rattle.tb_answer.proofs.bodies.ask.Goals as goal

pub returns-in-Sentence : goal.returns-in-Sentence
returns-in-Sentence g c = rw c.in-Sentence.is (record {
  read = record {
    answered = λ clean. body_ok c.sentence.result c.current_body.result c.current_body.ensures (c.sentence.ensures.read.answered clean) (λ current b are is s stands. (current.rev, is.1, subst (λ t. IsCurrent s c.in-Sentence.number current.rev t) (sym is.0) (are s stands)));
    reported = λ clean. body_err _ _ c.sentence.result c.current_body.result c.current_body.ensures (c.sentence.ensures.read.reported clean);
    read_only = c.sentence.ensures.read.read_only;
  };
  missing = λ s stands none. body_refused _ c.sentence.result c.current_body.result (reply.Refused NoSuchSentence) c.current_body.ensures (c.sentence.ensures.missing s stands none);
})

pub returns-in-Revision : goal.returns-in-Revision
returns-in-Revision g c = rw c.in-Revision.is (record {
  read = record {
    answered = λ clean. body_ok c.revision.result c.revision_body.result c.revision_body.ensures (c.revision.ensures.read.answered clean) (λ text b are is s stands. (is.1, subst (λ t. IsRevisionText s c.in-Revision.number c.in-Revision.rev t) (sym is.0) (are s stands)));
    reported = λ clean. body_err _ _ c.revision.result c.revision_body.result c.revision_body.ensures (c.revision.ensures.read.reported clean);
    read_only = c.revision.ensures.read.read_only;
  };
  missing = λ s stands none. body_refused _ c.revision.result c.revision_body.result (reply.Refused NoSuchSentence) c.revision_body.ensures (c.revision.ensures.missing s stands none);
})

pub returns-in-Totals : goal.returns-in-Totals
returns-in-Totals g c = rw c.in-Totals.is (record {
  read = record {
    answered = λ clean. body_ok c.totals.result c.text_body.result c.text_body.ensures (c.totals.ensures.read.answered clean) (λ text b are is s stands. (is.1, is.0 ∙ are s stands));
    reported = λ clean. body_err _ _ c.totals.result c.text_body.result c.text_body.ensures (if_err c.totals.result (c.totals.ensures.read.reported clean) (λ r failed s stands. inr (failed s stands, λ none. none)));
    read_only = c.totals.ensures.read.read_only;
  };
  missing = λ s stands none. absurd none;
})

pub returns-in-Moves : goal.returns-in-Moves
returns-in-Moves g c = rw c.in-Moves.is (record {
  read = record {
    answered = λ clean. body_ok c.moves.result c.text_body-in-Moves.result c.text_body-in-Moves.ensures (c.moves.ensures.read.answered clean) (λ text b are is s stands. (is.1, is.0 ∙ are s stands));
    reported = λ clean. body_err _ _ c.moves.result c.text_body-in-Moves.result c.text_body-in-Moves.ensures (if_err c.moves.result (c.moves.ensures.read.reported clean) (λ r failed s stands. inr (failed s stands, λ none. none)));
    read_only = c.moves.ensures.read.read_only;
  };
  missing = λ s stands none. absurd none;
})
