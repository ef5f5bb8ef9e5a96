use Rattle.std.proofs.Common.{subst}
use Rattle.tb_answer.specs.Viewed.{IsFoundText}
use Rattle.tb_answer.proofs.Failing.{if_err, if_ok}
use Rattle.tb_page.proofs.Identified.{lacking}
use Rattle.tb_page.proofs.lists.with_id.Goals as goal

pub returns-in-Ok-clause-read : goal.returns-in-Ok-clause-read
returns-in-Ok-clause-read g c = record {
  answered = λ clean. if_ok c.view_found.result (c.view_found.ensures.answered clean)
      (λ v all s stands. (c.in-Ok.ensures.cases.1, subst (λ i. IsFoundText s i v.items) c.in-Ok.ensures.cases.0 (all s stands)));
  reported = λ clean. if_err c.view_found.result (c.view_found.ensures.reported clean)
      (λ r all s stands. lacking s c.args.id.now c.in-Ok.id.now r c.in-Ok.ensures.cases.0 c.in-Ok.ensures.cases.1 (all s stands));
  read_only = c.view_found.ensures.read_only;
}

pub returns-in-Ok-clause-unreadable : goal.returns-in-Ok-clause-unreadable
returns-in-Ok-clause-unreadable g c = λ unreadable. absurd (unreadable c.in-Ok.ensures.cases.1)
