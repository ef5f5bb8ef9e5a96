use Rattle.tb_refine.proofs.Unique.{unique_tables}
use Rattle.tb_commands.proofs.Unpulled.{unpulled_lacks}
use Rattle.tb_refine.proofs.Faultless.{error_reported, memory_reported}
use Rattle.tb_core.specs.declared.refusals.Fault.TheVariants.{Device, NotADesk}
use Rattle.std.proofs.Common.{◌-◌, sym, ◌∙◌}
use Rattle.sqlite.specs.Held.{state}
use Rattle.sqlite.proofs.StateLemmas.{survives_weaker}
use Rattle.tb_refine.specs.Faults.{fault_of_error}
use Rattle.tb_refine.specs.DeskTables.{tables_of}
use Rattle.tb_refine.proofs.Written.{follows}
use Rattle.tb_commands.proofs.Committed.{pull_stands, restore_stands}
use Rattle.tb_core.specs.Acts.{pulling, restoring}
use Rattle.tb_commands.proofs.Short.{short_mover}
use Rattle.tb_refine.proofs.Reported.{reported_on, reported_err, reported_not}
use Rattle.tb_commands.proofs.pulling.write.Goals as goal

pub returns-in-Pull-clause-made : goal.returns-in-Pull-clause-made
returns-in-Pull-clause-made g c clean = rw c.in-Pull.is (rw c.reported_write.ensures.value (reported_on fault_of_error c.write_pull.result (c.write_pull.ensures.ok clean) (λ ok s user desk allowed reachable written.
    let holds = ok (tables_of s) desk.holds (follows s (pulling (c.args.number - 1) user) c.args.change.now written) in
    let well = c.reached_states_are_well.ensures s desk.reachable.reached in
    record {
      reachable = reachable;
      holds = record {
        autocommit = holds.autocommit;
        is_open = holds.is_open;
        schema = holds.schema;
        settled = holds.settled;
        stands = pull_stands s c.args.number user c.args.change.now c.requires.row desk.reachable.reached well allowed written (state g.S.Store c.write_pull.new.conn).now.trees holds.stands;
      };
    })))

pub returns-in-Pull-clause-keeps_records : goal.returns-in-Pull-clause-keeps_records
returns-in-Pull-clause-keeps_records g c clean opened = rw c.reported_write.ensures.value (reported_err fault_of_error _ c.write_pull.result (c.write_pull.ensures.err clean opened))

pub returns-in-Pull-clause-crash : goal.returns-in-Pull-clause-crash
returns-in-Pull-clause-crash g c = rw c.in-Pull.is (survives_weaker (state g.S.Store c.args.conn.now) (state g.S.Store c.write_pull.new.conn) _ _ (λ _ db whole s user desk allowed written.
    let well = c.reached_states_are_well.ensures s desk.reachable.reached in
    pull_stands s c.args.number user c.args.change.now c.requires.row desk.reachable.reached well allowed written db (whole (tables_of s) desk.holds (follows s (pulling (c.args.number - 1) user) c.args.change.now written))) c.write_pull.ensures.crash)

pub returns-in-Pull-clause-fails : goal.returns-in-Pull-clause-fails
returns-in-Pull-clause-fails g c = rw c.in-Pull.is (λ clean unlimited s user desk allowed written bad.
    let well = c.reached_states_are_well.ensures s desk.reachable.reached in
    let fault = c.write_pull.ensures.fails clean unlimited (tables_of s) desk.holds (follows s (pulling (c.args.number - 1) user) c.args.change.now written) (unpulled_lacks s c.args.number user c.requires.row allowed) (unique_tables s well) in
    reported_not fault_of_error NotADesk c.write_pull.result (λ e failed. error_reported e (rw failed at fault)) (sym c.reported_write.ensures.value ∙ bad))

pub returns-in-Pull-clause-cause : goal.returns-in-Pull-clause-cause
returns-in-Pull-clause-cause g c = rw c.in-Pull.is (λ good clean unlimited s desk user allowed written bad.
    let well = c.reached_states_are_well.ensures s desk.reachable.reached in
    let a = pulling (c.args.number - 1) user in
    let want = c.write_pull.ensures.wants good clean unlimited (tables_of s) desk.holds (follows s a c.args.change.now written) (unpulled_lacks s c.args.number user c.requires.row allowed) (unique_tables s well) (short_mover s a c.args.change.now written allowed.by) in
    reported_not fault_of_error Device c.write_pull.result (λ e failed. memory_reported e (rw failed at want)) (sym c.reported_write.ensures.value ∙ bad))

pub returns-in-Restore-clause-made : goal.returns-in-Restore-clause-made
returns-in-Restore-clause-made g c clean = rw c.in-Restore.is (rw c.reported_write-in-Restore.ensures.value (reported_on fault_of_error c.write_restore.result (c.write_restore.ensures.ok clean) (λ ok s user desk allowed reachable written.
    let holds = ok (tables_of s) desk.holds (follows s (restoring (c.args.number - 1) user) c.args.change.now written) in
    let well = c.reached_states_are_well.ensures s desk.reachable.reached in
    record {
      reachable = reachable;
      holds = record {
        autocommit = holds.autocommit;
        is_open = holds.is_open;
        schema = holds.schema;
        settled = holds.settled;
        stands = restore_stands s c.args.number user c.args.change.now c.requires.row desk.reachable.reached well allowed written (state g.S.Store c.write_restore.new.conn).now.trees holds.stands;
      };
    })))

pub returns-in-Restore-clause-keeps_records : goal.returns-in-Restore-clause-keeps_records
returns-in-Restore-clause-keeps_records g c clean opened = rw c.reported_write-in-Restore.ensures.value (reported_err fault_of_error _ c.write_restore.result (c.write_restore.ensures.err clean opened))

pub returns-in-Restore-clause-crash : goal.returns-in-Restore-clause-crash
returns-in-Restore-clause-crash g c = rw c.in-Restore.is (survives_weaker (state g.S.Store c.args.conn.now) (state g.S.Store c.write_restore.new.conn) _ _ (λ _ db whole s user desk allowed written.
    let well = c.reached_states_are_well.ensures s desk.reachable.reached in
    restore_stands s c.args.number user c.args.change.now c.requires.row desk.reachable.reached well allowed written db (whole (tables_of s) desk.holds (follows s (restoring (c.args.number - 1) user) c.args.change.now written))) c.write_restore.ensures.crash)

pub returns-in-Restore-clause-fails : goal.returns-in-Restore-clause-fails
returns-in-Restore-clause-fails g c = rw c.in-Restore.is (λ clean unlimited s user desk allowed written bad.
    let well = c.reached_states_are_well.ensures s desk.reachable.reached in
    let fault = c.write_restore.ensures.fails clean unlimited (tables_of s) desk.holds (follows s (restoring (c.args.number - 1) user) c.args.change.now written) (unique_tables s well) in
    reported_not fault_of_error NotADesk c.write_restore.result (λ e failed. error_reported e (rw failed at fault)) (sym c.reported_write-in-Restore.ensures.value ∙ bad))

pub returns-in-Restore-clause-cause : goal.returns-in-Restore-clause-cause
returns-in-Restore-clause-cause g c = rw c.in-Restore.is (λ good clean unlimited s desk user allowed written bad.
    let well = c.reached_states_are_well.ensures s desk.reachable.reached in
    let a = restoring (c.args.number - 1) user in
    let want = c.write_restore.ensures.wants good clean unlimited (tables_of s) desk.holds (follows s a c.args.change.now written) (unique_tables s well) (short_mover s a c.args.change.now written allowed.by) in
    reported_not fault_of_error Device c.write_restore.result (λ e failed. memory_reported e (rw failed at want)) (sym c.reported_write-in-Restore.ensures.value ∙ bad))
