use Rattle.tb_refine.proofs.Unique.{unique_tables}
use Rattle.tb_refine.proofs.Faultless.{room_reported, memory_reported}
use Rattle.tb_refine.proofs.Short.{short_name, short_mover}
use Rattle.tb_tables.specs.Failing.{AreUnique}
use Rattle.tb_core.specs.declared.refusals.Fault.TheVariants.{Device, NotADesk}
use Rattle.std.proofs.Common.{subst, ap, length, All, ◌≡◌, sym, ◌∙◌}
use Rattle.std.proofs.lemmas.List.{length-map}
use Rattle.sqlite.specs.Held.{state}
use Rattle.sqlite.proofs.StateLemmas.{survives_weaker}
use Rattle.tb_core.specs.Acts.{importing, after}
use Rattle.tb_tables.specs.Records.{Tables, AreStored}
use Rattle.tb_tables.specs.Changes.{Holds}
use Rattle.tb_refine.specs.DeskTables.{tables_of}
use Rattle.tb_refine.specs.Faults.{fault_of_error}
use Rattle.tb_refine.proofs.Written.{follows}
use Rattle.tb_refine.specs.Written.{item_of}
use Rattle.tb_tables.specs.Changes.{HasRevisionRowids}
use Rattle.tb_tables.specs.Premises.{IsShortItem}
use Rattle.tb_import.proofs.Committed.{import_stands, next_batch}
use Rattle.tb_import.proofs.Sized.{short_items}
use Rattle.tb_refine.proofs.Reported.{reported_on, reported_err, reported_not}
use Rattle.tb_import.proofs.committing.commit_import.Goals as goal

pub returns-clause-made : goal.returns-clause-made
returns-clause-made g c clean = rw c.reported_write.ensures.value (reported_on fault_of_error c.write_import.result (c.write_import.ensures.ok clean) (λ ok s bodies desk is allowed reachable written.
    let act = importing c.args.name.now c.args.who.now bodies in
    let next = next_batch s c.args.number c.args.first bodies c.args.items.now is in
    let holds = ok (tables_of s) desk.holds next.0 next.1 (follows s act c.args.change.now written) in
    let same = import_stands s c.args.name.now c.args.who.now bodies c.args.number c.args.first c.args.items.now c.args.change.now desk.reachable.reached is allowed written in
    record { reachable = reachable; holds = subst (λ (d : Tables). Holds g.S.Store c.write_import.new.conn d) same holds }))

pub returns-clause-keeps_records : goal.returns-clause-keeps_records
returns-clause-keeps_records g c clean opened = rw c.reported_write.ensures.value (reported_err fault_of_error _ c.write_import.result (c.write_import.ensures.err clean opened))

pub returns-clause-crash : goal.returns-clause-crash
returns-clause-crash g c = survives_weaker (state g.S.Store c.args.conn.now) (state g.S.Store c.write_import.new.conn) _ _ (λ _ db whole s bodies desk is allowed written.
    let next = next_batch s c.args.number c.args.first bodies c.args.items.now is in
    let same = import_stands s c.args.name.now c.args.who.now bodies c.args.number c.args.first c.args.items.now c.args.change.now desk.reachable.reached is allowed written in
    subst (λ (d : Tables). AreStored d db) same (whole (tables_of s) desk.holds next.0 next.1 (follows s (importing c.args.name.now c.args.who.now bodies) c.args.change.now written))) c.write_import.ensures.crash

pub returns-clause-fails : goal.returns-clause-fails
returns-clause-fails g c clean unlimited s bodies desk is allowed reachable written bad =
    let act = importing c.args.name.now c.args.who.now bodies in
    let next = next_batch s c.args.number c.args.first bodies c.args.items.now is in
    let same = import_stands s c.args.name.now c.args.who.now bodies c.args.number c.args.first c.args.items.now c.args.change.now desk.reachable.reached is allowed written in
    let apart = subst AreUnique (sym same) (unique_tables (after s act) (c.reached_states_are_well.ensures (after s act) reachable.reached)) in
    let fails = c.write_import.ensures.fails clean unlimited (tables_of s) desk.holds next.0 next.1 (follows s act c.args.change.now written) apart in
    reported_not fault_of_error NotADesk c.write_import.result (λ e failed. room_reported e (rw failed at fails)) (sym c.reported_write.ensures.value ∙ bad)

pub returns-clause-cause : goal.returns-clause-cause
returns-clause-cause g c good clean unlimited s desk bodies is allowed reachable written short free bad =
    let act = importing c.args.name.now c.args.who.now bodies in
    let next = next_batch s c.args.number c.args.first bodies c.args.items.now is in
    let same = import_stands s c.args.name.now c.args.who.now bodies c.args.number c.args.first c.args.items.now c.args.change.now desk.reachable.reached is allowed written in
    let apart = subst AreUnique (sym same) (unique_tables (after s act) (c.reached_states_are_well.ensures (after s act) reachable.reached)) in
    let items = subst (All IsShortItem) (sym is.reported) (short_items bodies short) in
    let many : length c.args.items.now ≡ length bodies = ap length is.reported ∙ length-map bodies item_of in
    let left = subst (HasRevisionRowids (state g.S.Store c.args.conn.now)) (sym many) free in
    let wants = c.write_import.ensures.wants good clean unlimited (tables_of s) desk.holds next.0 next.1 (follows s act c.args.change.now written) apart
    (short_name c.args.name.now allowed.named) (short_name c.args.who.now allowed.by) items (short_mover s act c.args.change.now written allowed.by) left in
    reported_not fault_of_error Device c.write_import.result (λ e failed. memory_reported e (rw failed at wants)) (sym c.reported_write.ensures.value ∙ bad)
