use Rattle.tb_commands.proofs.Revised.{unique_revised}
use Rattle.tb_refine.proofs.Unique.{unique_tables}
use Rattle.tb_refine.proofs.Faultless.{room_reported, memory_reported}
use Rattle.tb_tables.specs.Records.{Revision}
use Rattle.tb_core.specs.declared.refusals.Fault.TheVariants.{Device, NotADesk}
use Rattle.std.proofs.Common.{◌-◌, ◌∙◌, ap, option_map, ◌≡◌, refl, sym, subst}
use Rattle.std.proofs.lemmas.Option.{slice_get-map}
use Rattle.sqlite.specs.Held.{state}
use Rattle.sqlite.proofs.StateLemmas.{survives_weaker}
use Rattle.tb_core.specs.Acts.{correcting}
use Rattle.tb_refine.specs.Faults.{fault_of_error}
use Rattle.tb_refine.specs.DeskTables.{tables_of, sentence_record}
use Rattle.tb_refine.proofs.Written.{follows}
use Rattle.tb_commands.proofs.Committed.{correction_stands}
use Rattle.tb_core.specs.Machine.{Sentence}
use Rattle.tb_tables.specs.Failing.{IsShort}
use Rattle.tb_commands.proofs.Short.{short_id, short_name, short_mover}
use Rattle.tb_refine.proofs.Reported.{reported_on, reported_err, reported_not}
use Rattle.tb_commands.proofs.committing.correct.Goals as goal

pub returns-clause-made : goal.returns-clause-made
returns-clause-made g c clean = rw c.reported_write.ensures.value (reported_on fault_of_error c.write_correction.result (c.write_correction.ensures.ok clean) (λ ok s body x desk is allowed reachable written.
    let well = c.reached_states_are_well.ensures s desk.reachable.reached in
    let holds = ok (tables_of s) desk.holds (sentence_record x) (slice_get-map sentence_record s.sentences (c.args.number - 1) ∙ ap (option_map sentence_record) is.there) (follows s (correcting (c.args.number - 1) c.args.who.now body) c.args.change.now written) in
    record {
      reachable = reachable;
      holds = record {
        autocommit = holds.autocommit;
        is_open = holds.is_open;
        schema = holds.schema;
        settled = holds.settled;
        stands = correction_stands s c.args.number c.args.who.now body x c.args.rev c.args.words c.args.text.now c.args.change.now c.requires.row desk.reachable.reached well is allowed written (state g.S.Store c.write_correction.new.conn).now.trees holds.stands;
      };
    }))

pub returns-clause-keeps_records : goal.returns-clause-keeps_records
returns-clause-keeps_records g c clean opened = rw c.reported_write.ensures.value (reported_err fault_of_error _ c.write_correction.result (c.write_correction.ensures.err clean opened))

pub returns-clause-crash : goal.returns-clause-crash
returns-clause-crash g c = survives_weaker (state g.S.Store c.args.conn.now) (state g.S.Store c.write_correction.new.conn) _ _ (λ _ db whole s body x desk is allowed written.
    let well = c.reached_states_are_well.ensures s desk.reachable.reached in
    correction_stands s c.args.number c.args.who.now body x c.args.rev c.args.words c.args.text.now c.args.change.now c.requires.row desk.reachable.reached well is allowed written db
    (whole (tables_of s) desk.holds (sentence_record x) (slice_get-map sentence_record s.sentences (c.args.number - 1) ∙ ap (option_map sentence_record) is.there) (follows s (correcting (c.args.number - 1) c.args.who.now body) c.args.change.now written))) c.write_correction.ensures.crash

pub returns-clause-fails : goal.returns-clause-fails
returns-clause-fails g c clean unlimited s body x desk is allowed written bad =
    let well = c.reached_states_are_well.ensures s desk.reachable.reached in
    let row = slice_get-map sentence_record s.sentences (c.args.number - 1) ∙ ap (option_map sentence_record) is.there in
    let next : Revision = record { sent = c.args.number; rev = c.args.rev; who = c.args.who.now; body = c.args.text.now } in
    let apart = unique_revised s c.args.number x next (unique_tables s well) c.requires.row is.there refl is.next in
    let fault = c.write_correction.ensures.fails clean unlimited (tables_of s) desk.holds (sentence_record x) row (follows s (correcting (c.args.number - 1) c.args.who.now body) c.args.change.now written) apart in
    reported_not fault_of_error NotADesk c.write_correction.result (λ e failed. room_reported e (rw failed at fault)) (sym c.reported_write.ensures.value ∙ bad)

pub returns-clause-cause : goal.returns-clause-cause
returns-clause-cause g c good clean unlimited s desk body x is allowed written short free bad =
    let well = c.reached_states_are_well.ensures s desk.reachable.reached in
    let a = correcting (c.args.number - 1) c.args.who.now body in
    let row = slice_get-map sentence_record s.sentences (c.args.number - 1) ∙ ap (option_map sentence_record) is.there in
    let next : Revision = record { sent = c.args.number; rev = c.args.rev; who = c.args.who.now; body = c.args.text.now } in
    let apart = unique_revised s c.args.number x next (unique_tables s well) c.requires.row is.there refl is.next in
    let same : allowed.sentence ≡ x = (let here = allowed.there in let there = is.there in cc) in
    let id : IsShort x.sent_id = subst IsShort (allowed.same_id ∙ ap (λ (y : Sentence). y.sent_id) same) (short_id body (subst IsShort is.reported short)) in
    let want = c.write_correction.ensures.wants good clean unlimited (tables_of s) desk.holds (sentence_record x) row (follows s a c.args.change.now written) apart
    id (short_name c.args.who.now allowed.by) short (short_mover s a c.args.change.now written allowed.by) free in
    reported_not fault_of_error Device c.write_correction.result (λ e failed. memory_reported e (rw failed at want)) (sym c.reported_write.ensures.value ∙ bad)
