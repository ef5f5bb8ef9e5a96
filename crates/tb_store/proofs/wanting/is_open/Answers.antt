use Rattle.std.proofs.Common.{[], true, refl, sym, ◌∙◌}
use Rattle.sqlite.specs.Held.{state}
use Rattle.tb_core.specs.declared.refusals.Fault.TheVariants.{Memory}
use Rattle.tb_reads.proofs.Staying.{either_way, unchanged_holds, stopped_stays}
use Rattle.tb_store.proofs.Preparing.{not_run, was_open_before, open_where_reported, open_where_asked, reported_once, reported_or_not, wants_where_asked}
use Rattle.tb_store.proofs.wanting.is_open.Goals.{in-Ok, in-Err}
use Rattle.tb_store.proofs.wanting.is_open.Goals as goal

pub returns-clause-open : goal.returns-clause-open
returns-clause-open g c clean is = elim c.match-prepare.branch [
  | in-Ok w ↦ (w.in-Ok.ensures.ok clean).1.0.is_open
  | in-Err w ↦ open_where_reported (state g.S.Store c.args.conn.now) (state g.S.Store c.prepare.new.self) w.in-Err.error (sym (w.result-is ∙ w.reported_by.ensures) ∙ is) (not_run _ _ _ _ (w.in-Err.ensures.err clean []))
]

pub returns-clause-shut : goal.returns-clause-shut
returns-clause-shut g c clean is good = elim c.match-prepare.branch [
  | in-Ok w ↦ reported_once _ w.result-is is
  | in-Err w ↦ open_where_asked (state g.S.Store c.args.conn.now) (state g.S.Store c.prepare.new.self) _ w.in-Err.error refl good (w.in-Err.ensures.err clean []) (sym (w.result-is ∙ w.reported_by.ensures) ∙ is)
]

pub returns-clause-wants : goal.returns-clause-wants
returns-clause-wants g c clean is = elim c.match-prepare.branch [
  | in-Ok w ↦ absurd (reported_or_not _ true Memory w.result-is is)
  | in-Err w ↦ wants_where_asked (state g.S.Store c.args.conn.now) (state g.S.Store c.prepare.new.self) _ w.in-Err.error refl (w.in-Err.ensures.err clean []) (sym (w.result-is ∙ w.reported_by.ensures) ∙ is)
]

pub returns-clause-was_open : goal.returns-clause-was_open
returns-clause-was_open g c clean opened =
    either_way c.prepare.result (c.prepare.ensures.ok clean) (c.prepare.ensures.err clean) (λ x same. same.1.0.was_open)
    (λ e stopped. was_open_before (state g.S.Store c.args.conn.now) (state g.S.Store c.prepare.new.self) e (not_run _ _ _ e (stopped [])) opened)

pub returns-clause-keeps_records : goal.returns-clause-keeps_records
returns-clause-keeps_records g c clean opened d holds =
    either_way c.prepare.result (c.prepare.ensures.ok clean) (c.prepare.ensures.err clean) (λ x same. unchanged_holds g.S.Store c.args.conn.now c.prepare.new.self d holds same.1)
    (λ e stopped. stopped_stays g.S.Store c.args.conn.now c.prepare.new.self d e holds opened (not_run _ _ _ e (stopped [])))
