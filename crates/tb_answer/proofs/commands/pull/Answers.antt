use Rattle.std.proofs.Common.{refl, subst, sym}
use Rattle.tb_core.specs.Commands.{pull, pulled_out}
use Rattle.tb_http.specs.declared.replies.Reply.TheVariants as reply
use Rattle.tb_answer.specs.Commanded.{IsAnswered}
use Rattle.tb_answer.proofs.Failing.{answered_by, told_by}
use Rattle.tb_answer.proofs.commands.pull.Goals as goal

pub returns : goal.returns
returns g c =
    let act = pull c.args.number c.args.user.now in
    let told = told_by (λ r. reply.Pulled r) c.pull.result c.map_or_else.result c.map_or_else.ensures in
    record {
      answered = λ clean s stands. subst (IsAnswered g.S.Store c.args.desk.now.limits s act c.args.desk.now c.pull.new.self) (sym told)
          (answered_by g.S.Store c.args.desk.now c.pull.new.self act pulled_out (λ r. reply.Pulled r) s c.pull.result (λ r. refl) (c.pull.ensures.ends clean s stands)
          (λ room good. c.pull.ensures.cause clean s stands good) (λ none. c.pull.ensures.missing s stands none));
      crash = c.pull.ensures.crash;
      limits = c.pull.ensures.limits;
    }
