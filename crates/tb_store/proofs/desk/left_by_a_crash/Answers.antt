use Rattle.tb_store.proofs.Lasting.{leaves_only}
use Rattle.tb_store.proofs.desk.left_by_a_crash.Goals as goal

pub returns : goal.returns
returns g c s stands = leaves_only g.S.Store g.met.S.Store.settled c.args._desk.now s stands
