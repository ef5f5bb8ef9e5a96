use Rattle.std.proofs.Common.{refl, subst, sym}
use Rattle.tb_core.specs.Commands.{event_on, moved_on}
use Rattle.tb_http.specs.declared.replies.Reply.TheVariants as reply
use Rattle.tb_answer.specs.Commanded.{IsAnswered}
use Rattle.tb_answer.proofs.Failing.{answered_by, told_by}
use Rattle.tb_answer.proofs.commands.event.Goals as goal

pub returns : goal.returns
returns g c =
    let act = event_on c.args.name.now c.args.event c.args.user.now in
    let told = told_by (λ r. reply.Moved r) c.event.result c.map_or_else.result c.map_or_else.ensures in
    record {
      answered = λ clean s stands. subst (IsAnswered g.S.Store c.args.desk.now.limits s act c.args.desk.now c.event.new.self) (sym told)
          (answered_by g.S.Store c.args.desk.now c.event.new.self act moved_on (λ r. reply.Moved r) s c.event.result (λ r. refl) (c.event.ensures.ends clean s stands)
          (λ room good. c.event.ensures.cause clean s stands good) (λ none. absurd none));
      crash = c.event.ensures.crash;
      limits = c.event.ensures.limits;
    }
