use Rattle.std.proofs.Common.{◌≡◌, false, true, map, length, refl, rules, sym, ap, subst, ◌∙◌}
use Rattle.std.proofs.lemmas.Result.{err_from_is_err_and}
use Rattle.tb_core.specs.Machine.{Machine}
use Rattle.tb_core.specs.Totals.{AreTotalsOf}
use Rattle.tb_tables.specs.Values.{batch_of, sentence_of}
use Rattle.tb_refine.specs.DeskTables.{batch_record, sentence_record, move_record}
use Rattle.tb_verify.proofs.Unreported.{passed_on_as, wanted_as, no_want}
use Rattle.tb_refine.specs.Numbered.{AreNumbered}
use Rattle.tb_verify.specs.Summary.{IsShownBy}
use Rattle.tb_verify.proofs.Joined.{AreLent, rows_stand, shown_by, totals_reported, four_ok, as_many_entries, within, no_import}
use Rattle.tb_verify.proofs.summary.summary_of_rows.Goals as goal

pub returns-in_err-totals-clause-unfit : goal.returns-in_err-totals-clause-unfit
returns-in_err-totals-clause-unfit c = λ q s reach is.
    let p = err_from_is_err_and c.from_residual-in_err-totals.result c.from_residual-in_err-totals.ensures.1 in
    let rows = c.args.rows.now in
    let bs = c.as_slice-names.result.now in
    let ss = c.as_slice-sentences.result.now in
    let rs = c.as_slice-revisions.result.now in
    let ps = c.as_slice.result.now in
    let ms = c.as_slice-2.result.now in
    let ts = c.as_slice-3.result.now in
    let lent : AreLent rows bs ss rs ps ms ts = record { batches = search rules; sentences = search rules; revisions = search rules; pulled = search rules; moves = search rules; totals = search rules } in
    let b : c.deref.result.now ≡ c.in_ok-batches.batches.items = search rules in
    let e : c.deref-2.result.now ≡ c.in_ok-entries.entries.items = search rules in
    let m : c.deref-3.result.now ≡ c.in_ok-moves.moves.items = search rules in
    let fine = c.reached_states_are_fine.ensures s reach.reached in
    let each = (c.rows_tell_names_apart.ensures.unfit s (map batch_record s.batches) (map sentence_record s.sentences) refl refl fine).2 in
    let read = c.in_ok-entries.ensures.fine in
    let shown = shown_by rows bs ss rs ps ms ts lent s is c.deref.result.now c.deref-2.result.now c.deref-3.result.now read.0 c.rows_tell_sentences.ensures fine reach.reached each (ap (map batch_record) b ∙ c.in_ok-batches.ensures.records) read.1 (e ∙ read.2)
    (subst (AreNumbered 1) (sym m) c.in_ok-moves.ensures.numbers) (ap (map move_record) m ∙ c.in_ok-moves.ensures.records) in
    c.in_err-totals.ensures.unfit (passed_on_as c.from_residual-in_err-totals.result p.0 c.in_err-totals.field-0.0 p.1 p.2 q) s shown reach (totals_reported rows bs ss rs ps ms ts lent s is)

pub returns-clause-summary : goal.returns-clause-summary
returns-clause-summary c =
    let rows = c.args.rows.now in
    let bs = c.as_slice-names.result.now in
    let ss = c.as_slice-sentences.result.now in
    let rs = c.as_slice-revisions.result.now in
    let ps = c.as_slice.result.now in
    let ms = c.as_slice-2.result.now in
    let ts = c.as_slice-3.result.now in
    let lent : AreLent rows bs ss rs ps ms ts = record { batches = search rules; sentences = search rules; revisions = search rules; pulled = search rules; moves = search rules; totals = search rules } in
    let b : c.deref.result.now ≡ c.in_ok-batches.batches.items = search rules in
    let e : c.deref-2.result.now ≡ c.in_ok-entries.entries.items = search rules in
    let m : c.deref-3.result.now ≡ c.in_ok-moves.moves.items = search rules in
    let read = c.in_ok-entries.ensures.fine in
    let f : Machine = record { batches = c.in_ok-batches.batches.items; sentences = read.0; moves = c.in_ok-moves.moves.items } in
    let apart = c.in_ok-are_apart.ensures.apart.0 c.in_ok-fit.ensures.right in
    let fine = c.rows_tell_names_apart.ensures.fine f (map batch_of bs) (map sentence_of ss) c.in_ok-batches.ensures.records read.1.sentences apart.0 apart.1 read.1.fine in
    let shown : IsShownBy c.deref.result.now c.deref-2.result.now c.deref-3.result.now f = record { batches_are = b; entries_are = e ∙ read.2; moves_are = m; fine = fine } in
    let reported = c.in_ok-totals.ensures.reached f shown in
    let counted_batches : c.len.result ≡ length c.in_ok-batches.batches.items = search rules in
    let counted_entries : c.len-2.result ≡ length c.in_ok-entries.entries.items = search rules in
    let counted_moves : c.len-3.result ≡ length c.in_ok-moves.moves.items = search rules in
    four_ok c.counted.result c.counted.ensures.batches c.counted.ensures.sentences c.counted.ensures.moves c.counted.ensures.totals (λ x p q r t. (
      f,
      reported.0,
      rows_stand rows bs ss rs ps ms ts lent f c.in_ok-batches.ensures.records read.1 c.in_ok-moves.ensures.records reported.2,
      record {
        batches = p.0 ∙ counted_batches;
        sentences = q.0 ∙ counted_entries ∙ ap length read.2 ∙ as_many_entries read.0;
        moves = r.0 ∙ counted_moves;
        totals = subst (λ y. AreTotalsOf y f) (sym t) reported.1;
      },
    ))

pub returns-clause-unfit : goal.returns-clause-unfit
returns-clause-unfit c = λ q s reach is.
    let rows = c.args.rows.now in
    let bs = c.as_slice-names.result.now in
    let ss = c.as_slice-sentences.result.now in
    let rs = c.as_slice-revisions.result.now in
    let ps = c.as_slice.result.now in
    let ms = c.as_slice-2.result.now in
    let ts = c.as_slice-3.result.now in
    let lent : AreLent rows bs ss rs ps ms ts = record { batches = search rules; sentences = search rules; revisions = search rules; pulled = search rules; moves = search rules; totals = search rules } in
    let fine = c.reached_states_are_fine.ensures s reach.reached in
    let each = (c.rows_tell_names_apart.ensures.unfit s (map batch_record s.batches) (map sentence_record s.sentences) refl refl fine).2 in
    let read = c.in_ok-entries.ensures.fine in
    let shown = shown_by rows bs ss rs ps ms ts lent s is c.in_ok-batches.batches.items c.in_ok-entries.entries.items c.in_ok-moves.moves.items read.0 c.rows_tell_sentences.ensures fine reach.reached each c.in_ok-batches.ensures.records read.1 read.2
    c.in_ok-moves.ensures.numbers c.in_ok-moves.ensures.records in
    let counted_batches : c.len.result ≡ length c.in_ok-batches.batches.items = search rules in
    let counted_entries : c.len-2.result ≡ length c.in_ok-entries.entries.items = search rules in
    let counted_moves : c.len-3.result ≡ length c.in_ok-moves.moves.items = search rules in
    let bounds = within s c.len.result c.len-2.result c.len-3.result reach (counted_batches ∙ ap length shown.batches_are) (counted_entries ∙ ap length shown.entries_are ∙ as_many_entries s.sentences) (counted_moves ∙ ap length shown.moves_are) in
    c.counted.ensures.unfit q bounds.0 bounds.1 bounds.2

pub returns-in_err-are_apart-clause-empty : goal.returns-in_err-are_apart-clause-empty
returns-in_err-are_apart-clause-empty c = λ b s m. absurd (let t : false ≡ true = c.in_err-are_apart.ensures.sure (c.as_slice-names.ensures.value ∙ b) (c.as_slice-sentences.ensures.value ∙ s) in cc)

pub returns-in_err-fit-clause-empty : goal.returns-in_err-fit-clause-empty
returns-in_err-fit-clause-empty c = λ b s m q.
    let p = err_from_is_err_and c.from_residual-in_err-fit.result c.from_residual-in_err-fit.ensures.1 in
    no_want c.from_residual-in_err-fit.result p.0 c.in_err-fit.field-0.0 p.1 p.2 c.in_err-fit.ensures.wrong.0 q

pub returns-in_err-batches-clause-empty : goal.returns-in_err-batches-clause-empty
returns-in_err-batches-clause-empty c = λ b s m. absurd (let t : false ≡ true = c.in_err-batches.ensures.sure (c.as_slice-names.ensures.value ∙ b) in cc)

pub returns-in_err-entries-clause-empty : goal.returns-in_err-entries-clause-empty
returns-in_err-entries-clause-empty c = λ b s m q.
    let p = err_from_is_err_and c.from_residual-in_err-entries.result c.from_residual-in_err-entries.ensures.1 in
    c.in_err-entries.ensures.none (c.as_slice-sentences.ensures.value ∙ s) (wanted_as c.from_residual-in_err-entries.result p.0 c.in_err-entries.field-0.0 p.1 p.2 q)

pub returns-in_err-moves-clause-empty : goal.returns-in_err-moves-clause-empty
returns-in_err-moves-clause-empty c = λ b s m. absurd (let t : false ≡ true = c.in_err-moves.ensures.sure (c.as_slice-2.ensures.value ∙ m) in cc)

pub returns-in_err-totals-clause-empty : goal.returns-in_err-totals-clause-empty
returns-in_err-totals-clause-empty c = λ b s m q.
    let p = err_from_is_err_and c.from_residual-in_err-totals.result c.from_residual-in_err-totals.ensures.1 in
    let same : c.deref-3.result.now ≡ c.in_ok-moves.moves.items = search rules in
    c.in_err-totals.ensures.sure (no_import c.deref-3.result.now c.in_ok-moves.moves.items c.as_slice-2.result.now same c.in_ok-moves.ensures.records (c.as_slice-2.ensures.value ∙ m)) (wanted_as c.from_residual-in_err-totals.result p.0 c.in_err-totals.field-0.0 p.1 p.2 q)
