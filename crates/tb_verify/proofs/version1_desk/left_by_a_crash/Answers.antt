use Rattle.std.proofs.Common.{sym, subst, ◌∙◌, ap}
use Rattle.sqlite.specs.Effect.{Database}
use Rattle.tb_refine.specs.DeskTables.{tables_of}
use Rattle.tb_verify.specs.Version1.{AreStoredInVersion1}
use Rattle.tb_verify.proofs.version1_desk.left_by_a_crash.Goals as goal

pub returns : goal.returns
returns g c s desk db may =
    let conn = c.args._conn.now in
    subst (AreStoredInVersion1 (tables_of s)) (sym (g.met.S.Store.settled conn.store db desk.holds.is_open may ∙ ap (λ (b : Database). b.trees) desk.holds.settled)) desk.holds.stands
