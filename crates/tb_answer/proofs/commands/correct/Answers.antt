use Rattle.std.proofs.Common.{refl, subst, sym}
use Rattle.tb_core.specs.Commands.{correct, corrected_to}
use Rattle.tb_http.specs.declared.replies.Reply.TheVariants as reply
use Rattle.tb_answer.specs.Commanded.{IsAnswered}
use Rattle.tb_answer.proofs.Failing.{answered_by, told_by}
use Rattle.tb_answer.proofs.commands.correct.Goals as goal

pub returns : goal.returns
returns g c =
    let act = correct c.args.number c.args.base c.args.user.now c.args.body.now in
    let told = told_by (λ r. reply.Corrected r) c.correct.result c.map_or_else.result c.map_or_else.ensures in
    record {
      answered = λ clean s stands. subst (IsAnswered g.S.Store c.args.desk.now.limits s act c.args.desk.now c.correct.new.self) (sym told)
          (answered_by g.S.Store c.args.desk.now c.correct.new.self act corrected_to (λ r. reply.Corrected r) s c.correct.result (λ r. refl) (c.correct.ensures.ends clean s stands)
          (λ room good. c.correct.ensures.cause clean s stands good room) (λ none. c.correct.ensures.missing s stands none));
      crash = c.correct.ensures.crash;
      limits = c.correct.ensures.limits;
    }
