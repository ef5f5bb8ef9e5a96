use Rattle.std.proofs.Common.{inr}
use Rattle.tb_desk.proofs.viewing.run_list.Goals as goal

pub returns-in-Ok : goal.returns-in-Ok
returns-in-Ok g c = inr record {
  opened = c.in-Ok.opened;
  ended = record { desk = c.show-outcome.new.desk };
  is = c.in-Ok.ensures.desk;
  shown = c.show-outcome.ensures.shown;
  read_only = c.show-outcome.ensures.read_only;
}
