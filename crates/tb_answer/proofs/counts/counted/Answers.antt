use Rattle.std.proofs.Common.{inl, refl}
use Rattle.tb_answer.proofs.OrReply.{err_each, failure_told, made_err, made_ok}
use Rattle.tb_answer.proofs.Questioned.{only_asked}
use Rattle.tb_answer.proofs.counts.counted.Goals as goal

pub returns-clause-counted : goal.returns-clause-counted
returns-clause-counted g c clean =
    made_ok c.count.result c.table_or_reply.result c.table_or_reply.ensures (c.count.ensures.answered clean) (λ table v are is s stands.
    let it = are s stands in
    (it.0, it.1, table, is.0, it.2, is.1, is.2, is.3))

pub returns-clause-failed : goal.returns-clause-failed
returns-clause-failed g c clean = err_each _ _ c.table_or_reply.result (λ s stands.
    made_err _ _ c.count.result c.table_or_reply.result c.table_or_reply.ensures
    (failure_told c.count.result c.count.ensures.never_refuses (c.count.ensures.question.fails clean s stands) (c.count.ensures.question.cause clean s stands) c.count.ensures.output) (λ table is. inl refl))

pub returns-clause-read_only : goal.returns-clause-read_only
returns-clause-read_only g c = only_asked c.count.ensures.question
