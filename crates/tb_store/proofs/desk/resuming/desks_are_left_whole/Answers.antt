use Rattle.tb_store.proofs.Lasting.{leaves_only}
use Rattle.tb_store.proofs.desk.resuming.desks_are_left_whole.Goals as goal

pub returns : goal.returns
returns g c d s stands = leaves_only g.S.Store g.met.S.Store.settled d s stands
