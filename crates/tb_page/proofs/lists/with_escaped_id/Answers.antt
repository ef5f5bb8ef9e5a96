use Rattle.std.proofs.Common.{◌∙◌, Err, ap, inl, inr, refl, subst}
use Rattle.std.specs.Str.{IsUtf8}
use Rattle.tb_answer.specs.Commanded.{HasFailed}
use Rattle.tb_answer.specs.Viewed.{IsReportedAs}
use Rattle.tb_answer.proofs.Failing.{if_err, if_ok}
use Rattle.tb_page.specs.Lists.{IsWithId, LacksId}
use Rattle.tb_page.proofs.lists.with_escaped_id.Goals as goal

pub returns-in-Ok-clause-read : goal.returns-in-Ok-clause-read
returns-in-Ok-clause-read g c = record {
  answered = λ clean. if_ok c.with_id.result (c.with_id.ensures.read.answered clean)
      (λ v all s stands. subst (λ i. IsWithId s i v.items) (c.as_slice.ensures.value ∙ c.in-Ok.ensures.bytes) (all s stands));
  reported = λ clean. if_err c.with_id.result (c.with_id.ensures.read.reported clean)
      (λ r all s stands. subst (λ i. IsReportedAs (HasFailed g.S.Store c.args.desk.now c.with_id.new.desk) (LacksId s i) r) (c.as_slice.ensures.value ∙ c.in-Ok.ensures.bytes) (all s stands));
  read_only = c.with_id.ensures.read.read_only;
}

pub returns-in-Ok-clause-unreadable : goal.returns-in-Ok-clause-unreadable
returns-in-Ok-clause-unreadable g c = λ unreadable.
    let same = c.as_slice.ensures.value ∙ c.in-Ok.ensures.bytes in
    let lacks = c.with_id.ensures.unreadable (λ utf8. unreadable (subst IsUtf8 same utf8)) in
    (lacks.1, inl lacks.0)

pub returns-in-Err-clause-unreadable : goal.returns-in-Err-clause-unreadable
returns-in-Err-clause-unreadable g c = λ _. (refl, inr (ap Err c.in-Err.ensures.failed))
