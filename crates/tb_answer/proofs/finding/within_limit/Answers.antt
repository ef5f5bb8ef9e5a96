use Rattle.std.proofs.Common.{length, refl}
use Rattle.tb_answer.proofs.SearchTexts.{none_above}
use Rattle.tb_answer.proofs.Questioned.{survives_none, unread}
use Rattle.tb_answer.proofs.finding.within_limit.Goals as goal

pub returns-in-Shortest-clause-limited : goal.returns-in-Shortest-clause-limited
returns-in-Shortest-clause-limited g c = record {
  allowed = λ clean. (refl, λ s stands found are above. none_above c.args.strategy c.args.desk.now.limits.hits (length found) c.in-Shortest.is above);
  reported = λ clean. tt;
  stays = λ clean s stands. stands;
  read_only = unread g.S.Store c.args.desk.now;
  commits_nothing = survives_none g.S.Store c.args.desk.now.conn _;
}
