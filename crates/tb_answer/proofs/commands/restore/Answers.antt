use Rattle.std.proofs.Common.{refl, subst, sym}
use Rattle.tb_core.specs.Commands.{restore, restored_to}
use Rattle.tb_http.specs.declared.replies.Reply.TheVariants as reply
use Rattle.tb_answer.specs.Commanded.{IsAnswered}
use Rattle.tb_answer.proofs.Failing.{answered_by, told_by}
use Rattle.tb_answer.proofs.commands.restore.Goals as goal

pub returns : goal.returns
returns g c =
    let act = restore c.args.number c.args.user.now in
    let told = told_by (λ r. reply.Restored r) c.restore.result c.map_or_else.result c.map_or_else.ensures in
    record {
      answered = λ clean s stands. subst (IsAnswered g.S.Store c.args.desk.now.limits s act c.args.desk.now c.restore.new.self) (sym told)
          (answered_by g.S.Store c.args.desk.now c.restore.new.self act restored_to (λ r. reply.Restored r) s c.restore.result (λ r. refl) (c.restore.ensures.ends clean s stands)
          (λ room good. c.restore.ensures.cause clean s stands good) (λ none. c.restore.ensures.missing s stands none));
      crash = c.restore.ensures.crash;
      limits = c.restore.ensures.limits;
    }
