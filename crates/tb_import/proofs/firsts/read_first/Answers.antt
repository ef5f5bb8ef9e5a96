use Rattle.std.proofs.Common.{◌≡◌, [], ◌∷◌, string_bytes}
use Rattle.tb_conllu.specs.Text.{BlockText, text_of}
use Rattle.tb_core.specs.Machine.{Machine}
use Rattle.tb_tables.specs.Values.{revision_of}
use Rattle.tb_tables.specs.declared.rows.RevisionRow.{RevisionRow}
use Rattle.tb_reads.specs.Readable.{IsRevision}
use Rattle.tb_refine.specs.DeskTables.{tables_of, IsDeskOf}
use Rattle.tb_refine.specs.Fitting.{IsReadableRevision}
use Rattle.tb_refine.proofs.Faultless.{fit}
use Rattle.tb_refine.proofs.Revised.{revision_found}
use Rattle.tb_import.specs.Firsts.{IsFirst}
use Rattle.tb_import.proofs.Bounds.{first_stands}
use Rattle.tb_import.proofs.Firstly.{first_reported}
use Rattle.tb_refine.proofs.Reported.{row_if}
use Rattle.tb_import.proofs.Looks.{look_of}
use Rattle.tb_refine.proofs.DeskReads.{row_of}
use Rattle.tb_import.proofs.firsts.read_first.Goals as goal

pub returns-clause-answered : goal.returns-clause-answered
returns-clause-answered g c clean =
    let P = λ (row : RevisionRow). (s : Machine) (b : BlockText) → IsDeskOf g.S.Store c.args.conn.now s → IsFirst s c.args.number b → string_bytes row.body ≡ text_of (b ∷ []) in
    rw c.reported_row.ensures.value (row_if P c.revision.result (λ row is s b desk first.
    let read = rw is at c.revision.ensures.ok in
    let found = read clean desk.holds.schema (tables_of s).revisions desk.holds.stands.revisions in
    let of = (c.records_determine_the_state.ensures.revisions s (revision_of row)).0 found.0 in
    first_reported s c.args.number b (revision_of row) first of found.1 found.2))

pub returns-clause-look : goal.returns-clause-look
returns-clause-look g c =
    look_of c.reported_row.result (row_of c.reported_row.result c.reported_row.ensures.never_refuses c.reported_row.ensures.output c.revision.result c.reported_row.ensures.value c.revision.ensures.fails c.revision.ensures.cause c.revision.ensures.read_only
    (λ clean s desk so b first. so
    (λ none.
    let read = rw none at c.revision.ensures.ok in
    let has = first_stands s c.args.number b first in
    revision_found s c.args.number 1 first.sentence has.0 first.counted first.there has.1 (read clean desk.holds.schema (tables_of s).revisions desk.holds.stands.revisions))
    (λ unfit.
    let readable = c.desk_rows_are_readable.ensures s desk.reachable in
    let fits = fit IsReadableRevision IsRevision (λ r h. record { sent_fits = h.sent_fits; rev_fits = h.rev_fits; who_fits = h.who_fits; body_fits = h.body_fits }) (tables_of s).revisions readable.revisions in
    c.revision.ensures.form clean unfit desk.holds.schema (tables_of s).revisions fits desk.holds.stands.revisions)))
