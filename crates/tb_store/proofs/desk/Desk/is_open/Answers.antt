use Rattle.std.proofs.Common.{false, sym, subst}
use Rattle.tb_store.specs.Represents.{Represents}
use Rattle.tb_refine.proofs.Unchanged.{desk_kept}
use Rattle.tb_store.proofs.Represented.{still_stands, stands_in_doubt}
use Rattle.tb_store.proofs.desk.Desk.is_open.Goals as goal

pub returns-in-Ok-clause-keeps_state : goal.returns-in-Ok-clause-keeps_state
returns-in-Ok-clause-keeps_state g c clean opened s stands =
    let here = subst (λ k. Represents g.S.Store k s) (sym c.self.view_is) stands in
    stands_in_doubt g.S.Store _ c.is_open.new.conn false s (desk_kept g.S.Store c.self.inside.conn c.is_open.new.conn (c.is_open.ensures.keeps_records clean opened) s here.desk) here

pub returns-in-Err-clause-keeps_state : goal.returns-in-Err-clause-keeps_state
returns-in-Err-clause-keeps_state g c clean opened s stands =
    let here = subst (λ k. Represents g.S.Store k s) (sym c.self.view_is) stands in
    still_stands g.S.Store _ c.is_open.new.conn s (desk_kept g.S.Store c.self.inside.conn c.is_open.new.conn (c.is_open.ensures.keeps_records clean opened) s here.desk) here
