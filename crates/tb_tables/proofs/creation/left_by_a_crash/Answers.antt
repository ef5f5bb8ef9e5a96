use Rattle.std.proofs.Common.{sym, subst, ◌∙◌, ap}
use Rattle.sqlite.specs.Effect.{Database}
use Rattle.tb_tables.specs.Records.{AreStored}
use Rattle.tb_tables.proofs.creation.left_by_a_crash.Goals as goal

pub returns : goal.returns
returns g c d holds db may =
    let conn = c.args._conn.now in
    subst (AreStored d) (sym (g.met.S.Store.settled conn.store db holds.is_open may ∙ ap (λ (b : Database). b.trees) holds.settled)) holds.stands
