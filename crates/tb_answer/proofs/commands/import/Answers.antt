use Rattle.std.proofs.Common.{refl, subst, sym}
use Rattle.tb_core.specs.Commands.{import_file, imported}
use Rattle.tb_http.specs.declared.replies.Reply.TheVariants as reply
use Rattle.tb_answer.specs.Commanded.{IsAnswered}
use Rattle.tb_answer.proofs.Failing.{answered_by, told_by}
use Rattle.tb_answer.proofs.commands.import.Goals as goal

pub returns : goal.returns
returns g c =
    let act = import_file c.args.name.now c.args.user.now c.args.body.now in
    let told = told_by (λ r. reply.Imported r) c.import.result c.map_or_else.result c.map_or_else.ensures in
    record {
      answered = λ clean s stands. subst (IsAnswered g.S.Store c.args.desk.now.limits s act c.args.desk.now c.import.new.self) (sym told)
          (answered_by g.S.Store c.args.desk.now c.import.new.self act imported (λ r. reply.Imported r) s c.import.result (λ r. refl) (c.import.ensures.ends clean s stands)
          (λ room good. c.import.ensures.cause clean s stands good room) (λ none. absurd none));
      crash = c.import.ensures.crash;
      limits = c.import.ensures.limits;
    }
