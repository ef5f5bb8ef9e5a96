use Rattle.tb_answer.proofs.Failing.{if_ok}
use Rattle.tb_answer.proofs.SearchTexts.{allowed, limit_told, query_allowed, query_refused, query_stays}
use Rattle.tb_answer.proofs.OrReply.{err_each}
use Rattle.tb_answer.proofs.Questioned.{only_asked}
use Rattle.tb_answer.proofs.finding.counted_within.Goals as goal

pub returns : goal.returns
returns g c = record {
  allowed = λ clean. query_allowed _ c.number.result c.counted_query.result c.args.query c.counted_query.ensures
      (if_ok c.number.result (c.number.ensures.answered clean) (λ n is s stands. allowed c.one_list_is_found.ensures c.args.desk.now.limits s c.args.query c.args.strategy n (is s stands)));
  reported = λ clean. err_each _ _ c.counted_query.result (λ s stands.
      query_refused _ c.number.result c.counted_query.result c.args.query c.counted_query.ensures
      (limit_told c.args.desk.now.limits s c.args.query c.args.strategy c.number.result (λ r is. let it = c.number.ensures.refused clean r is in (it.0, it.1 s stands))
      (c.number.ensures.question.fails clean s stands) (c.number.ensures.question.cause clean s stands) c.number.ensures.output));
  stays = λ clean. query_stays _ c.number.result c.counted_query.result c.args.query c.counted_query.ensures (c.number.ensures.question.stays clean);
  read_only = only_asked c.number.ensures.question;
  commits_nothing = c.number.ensures.question.commits_nothing;
}
