use Rattle.std.proofs.Common.{◌≡◌, string_bytes, sym, subst, ◌∙◌, rules}
use Rattle.sqlite.specs.Held.{state}
use Rattle.sqlite.proofs.StateLemmas.{survives_weaker}
use Rattle.tb_core.specs.declared.refusals.Fault.TheVariants.{Device, NotADesk}
use Rattle.tb_core.specs.Acts.{stepping}
use Rattle.tb_refine.specs.DeskTables.{tables_of, batch_record}
use Rattle.tb_refine.specs.Faults.{fault_of_error}
use Rattle.tb_refine.proofs.Written.{follows}
use Rattle.tb_refine.proofs.Faultless.{error_reported, memory_reported}
use Rattle.tb_refine.proofs.Unique.{unique_tables}
use Rattle.tb_commands.proofs.Stepped.{event_stands, row_there, prepared_written}
use Rattle.tb_tables.specs.Failing.{IsShort}
use Rattle.tb_commands.proofs.Short.{short_batch, short_mover, short_worker}
use Rattle.tb_refine.proofs.Reported.{reported_on, reported_err, reported_not}
use Rattle.tb_commands.proofs.stepping.write.Goals as goal

pub returns-clause-done : goal.returns-clause-done
returns-clause-done g c clean = rw c.reported_write.ensures.value (reported_on fault_of_error c.write_event.result (c.write_event.ensures.ok clean) (λ ok s desk place event user plan allowed.
    let who : c.as_str.result.now ≡ string_bytes c.args.plan.now.worker = search rules in
    let holds = ok (tables_of s) desk.holds (batch_record plan.batch) (row_there s place event user c.args.plan.now plan) (follows s (stepping place event user) c.args.plan.now.prepared.change (prepared_written s place event user c.args.plan.now plan)) in
    record {
      autocommit = holds.autocommit;
      is_open = holds.is_open;
      schema = holds.schema;
      settled = holds.settled;
      stands = event_stands c.events_are_stored.ensures s place event user c.args.plan.now plan c.as_str.result.now who desk.reachable.reached allowed (state g.S.Store c.write_event.new.conn).now.trees holds.stands;
    }))

pub returns-clause-keeps_records : goal.returns-clause-keeps_records
returns-clause-keeps_records g c clean opened = rw c.reported_write.ensures.value (reported_err fault_of_error _ c.write_event.result (c.write_event.ensures.err clean opened))

pub returns-clause-crash : goal.returns-clause-crash
returns-clause-crash g c = survives_weaker (state g.S.Store c.args.conn.now) (state g.S.Store c.write_event.new.conn) _ _ (λ _ db whole s desk place event user plan allowed.
    let who : c.as_str.result.now ≡ string_bytes c.args.plan.now.worker = search rules in
    event_stands c.events_are_stored.ensures s place event user c.args.plan.now plan c.as_str.result.now who desk.reachable.reached allowed db
    (whole (tables_of s) desk.holds (batch_record plan.batch) (row_there s place event user c.args.plan.now plan) (follows s (stepping place event user) c.args.plan.now.prepared.change (prepared_written s place event user c.args.plan.now plan)))) c.write_event.ensures.crash

pub returns-clause-fails : goal.returns-clause-fails
returns-clause-fails g c clean unlimited s desk place event user plan allowed bad =
    let well = c.reached_states_are_well.ensures s desk.reachable.reached in
    let fault = c.write_event.ensures.fails clean unlimited (tables_of s) desk.holds (batch_record plan.batch) (row_there s place event user c.args.plan.now plan)
    (follows s (stepping place event user) c.args.plan.now.prepared.change (prepared_written s place event user c.args.plan.now plan)) (unique_tables s well) in
    reported_not fault_of_error NotADesk c.write_event.result (λ e failed. error_reported e (rw failed at fault)) (sym c.reported_write.ensures.value ∙ bad)

pub returns-clause-cause : goal.returns-clause-cause
returns-clause-cause g c good clean unlimited s desk place event user plan allowed bad =
    let well = c.reached_states_are_well.ensures s desk.reachable.reached in
    let a = stepping place event user in
    let change = c.args.plan.now.prepared.change in
    let written = prepared_written s place event user c.args.plan.now plan in
    let who : c.as_str.result.now ≡ string_bytes c.args.plan.now.worker = search rules in
    let worker : IsShort c.as_str.result.now = subst IsShort (sym (who ∙ plan.worker)) (short_worker s place event user plan.batch desk.reachable.reached plan.there allowed.by) in
    let want = c.write_event.ensures.wants good clean unlimited (tables_of s) desk.holds (batch_record plan.batch) (row_there s place event user c.args.plan.now plan)
    (follows s a change written) (unique_tables s well) (short_batch s place plan.batch well plan.there) worker (short_mover s a change written allowed.by) in
    reported_not fault_of_error Device c.write_event.result (λ e failed. memory_reported e (rw failed at want)) (sym c.reported_write.ensures.value ∙ bad)
