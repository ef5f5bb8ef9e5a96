use Rattle.tb_words.proofs.PairSteps.{none_written, span_written}
use Rattle.tb_words.proofs.pairs.place_in.Goals as goal

pub returns-in_default : goal.returns-in_default
returns-in_default c = none_written c.args.text.now (rw c.in_default.is at c.id_of.ensures)

pub returns-in-Span : goal.returns-in-Span
returns-in-Span c =
    let known = rw c.in-Some.is at c.id_of.ensures in
    span_written c.args.text.now _ _ (rw c.in-Span.is at known.1) (rw c.in-Span.is at known.2)
