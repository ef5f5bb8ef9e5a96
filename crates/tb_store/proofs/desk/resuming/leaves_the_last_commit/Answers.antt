use Rattle.tb_store.proofs.desk.resuming.leaves_the_last_commit.Goals as goal

pub returns : goal.returns
returns g c db opened may = g.met.S.Store.settled c.args._conn.now.store db opened may
