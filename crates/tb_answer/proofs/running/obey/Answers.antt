use Rattle.std.proofs.Common.{sym, subst}
use Rattle.tb_answer.specs.declared.calls.DeskCommand.{DeskCommand}
use Rattle.tb_answer.specs.Commanded.{IsObeyed}
use Rattle.tb_answer.specs.Calls.{command_by}
use Rattle.tb_answer.proofs.running.obey.Goals as goal

pub returns-in-Event : goal.returns-in-Event
returns-in-Event g c =
    subst (λ (asked : DeskCommand). IsObeyed g.S.Store (command_by asked) c.args.desk.now c.event.new.desk c.event.result) (sym c.in-Event.is) c.event.ensures

pub returns-in-Correct : goal.returns-in-Correct
returns-in-Correct g c =
    subst (λ (asked : DeskCommand). IsObeyed g.S.Store (command_by asked) c.args.desk.now c.correct.new.desk c.correct.result) (sym c.in-Correct.is) c.correct.ensures

pub returns-in-Pull : goal.returns-in-Pull
returns-in-Pull g c =
    subst (λ (asked : DeskCommand). IsObeyed g.S.Store (command_by asked) c.args.desk.now c.pull.new.desk c.pull.result) (sym c.in-Pull.is) c.pull.ensures

pub returns-in-Restore : goal.returns-in-Restore
returns-in-Restore g c =
    subst (λ (asked : DeskCommand). IsObeyed g.S.Store (command_by asked) c.args.desk.now c.restore.new.desk c.restore.result) (sym c.in-Restore.is) c.restore.ensures

pub returns-in-Import : goal.returns-in-Import
returns-in-Import g c =
    subst (λ (asked : DeskCommand). IsObeyed g.S.Store (command_by asked) c.args.desk.now c.import.new.desk c.import.result) (sym c.in-Import.is) c.import.ensures
