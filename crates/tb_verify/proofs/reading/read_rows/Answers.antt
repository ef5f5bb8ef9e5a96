use Rattle.std.proofs.lemmas.Result.{err_from_is_err_and}
use Rattle.tb_verify.proofs.TableReads.{read_both, read_failed, read_as}
use Rattle.tb_tables.specs.Records.{AreStored}
use Rattle.tb_verify.specs.Summary.{tables_in}
use Rattle.tb_verify.specs.declared.summary.TableRows.{TableRows}
use Rattle.tb_verify.proofs.reading.read_rows.Goals as goal

pub returns-in_err-batches : goal.returns-in_err-batches
returns-in_err-batches g c =
    let p = err_from_is_err_and c.from_residual-in_err-batches.result c.from_residual-in_err-batches.ensures.1 in
    read_failed g.S.Store c.args.conn.now c.read_batches.new.conn c.in_err-batches.field-0.0 p.0 c.from_residual-in_err-batches.result _ _ _ _ p.1 p.2
    (read_both g.S.Store c.args.conn.now c.read_version.new.conn c.read_batches.new.conn tt _ _ c.in_ok-read_version.ensures _ _ _ c.in_err-batches.ensures)

pub returns-in_err-sentences : goal.returns-in_err-sentences
returns-in_err-sentences g c =
    let p = err_from_is_err_and c.from_residual-in_err-sentences.result c.from_residual-in_err-sentences.ensures.1 in
    let batches = read_both g.S.Store c.args.conn.now c.read_version.new.conn c.read_batches.new.conn tt _ _ c.in_ok-read_version.ensures _ _ _ c.in_ok-batches.ensures in
    read_failed g.S.Store c.args.conn.now c.read_sentences.new.conn c.in_err-sentences.field-0.0 p.0 c.from_residual-in_err-sentences.result _ _ _ _ p.1 p.2
    (read_both g.S.Store c.args.conn.now c.read_batches.new.conn c.read_sentences.new.conn c.in_ok-batches.batches _ _ batches _ _ _ c.in_err-sentences.ensures)

pub returns-in_err-revisions : goal.returns-in_err-revisions
returns-in_err-revisions g c =
    let p = err_from_is_err_and c.from_residual-in_err-revisions.result c.from_residual-in_err-revisions.ensures.1 in
    let batches = read_both g.S.Store c.args.conn.now c.read_version.new.conn c.read_batches.new.conn tt _ _ c.in_ok-read_version.ensures _ _ _ c.in_ok-batches.ensures in
    let sentences = read_both g.S.Store c.args.conn.now c.read_batches.new.conn c.read_sentences.new.conn c.in_ok-batches.batches _ _ batches _ _ _ c.in_ok-sentences.ensures in
    read_failed g.S.Store c.args.conn.now c.read_revisions.new.conn c.in_err-revisions.field-0.0 p.0 c.from_residual-in_err-revisions.result _ _ _ _ p.1 p.2
    (read_both g.S.Store c.args.conn.now c.read_sentences.new.conn c.read_revisions.new.conn c.in_ok-sentences.sentences _ _ sentences _ _ _ c.in_err-revisions.ensures)

pub returns-in_err-moves : goal.returns-in_err-moves
returns-in_err-moves g c =
    let p = err_from_is_err_and c.from_residual-in_err-moves.result c.from_residual-in_err-moves.ensures.1 in
    let batches = read_both g.S.Store c.args.conn.now c.read_version.new.conn c.read_batches.new.conn tt _ _ c.in_ok-read_version.ensures _ _ _ c.in_ok-batches.ensures in
    let sentences = read_both g.S.Store c.args.conn.now c.read_batches.new.conn c.read_sentences.new.conn c.in_ok-batches.batches _ _ batches _ _ _ c.in_ok-sentences.ensures in
    let revisions = read_both g.S.Store c.args.conn.now c.read_sentences.new.conn c.read_revisions.new.conn c.in_ok-sentences.sentences _ _ sentences _ _ _ c.in_ok-revisions.ensures in
    read_failed g.S.Store c.args.conn.now c.read_moves.new.conn c.in_err-moves.field-0.0 p.0 c.from_residual-in_err-moves.result _ _ _ _ p.1 p.2
    (read_both g.S.Store c.args.conn.now c.read_revisions.new.conn c.read_moves.new.conn c.in_ok-revisions.revisions _ _ revisions _ _ _ c.in_err-moves.ensures)

pub returns-in_err-totals : goal.returns-in_err-totals
returns-in_err-totals g c =
    let p = err_from_is_err_and c.from_residual-in_err-totals.result c.from_residual-in_err-totals.ensures.1 in
    let batches = read_both g.S.Store c.args.conn.now c.read_version.new.conn c.read_batches.new.conn tt _ _ c.in_ok-read_version.ensures _ _ _ c.in_ok-batches.ensures in
    let sentences = read_both g.S.Store c.args.conn.now c.read_batches.new.conn c.read_sentences.new.conn c.in_ok-batches.batches _ _ batches _ _ _ c.in_ok-sentences.ensures in
    let revisions = read_both g.S.Store c.args.conn.now c.read_sentences.new.conn c.read_revisions.new.conn c.in_ok-sentences.sentences _ _ sentences _ _ _ c.in_ok-revisions.ensures in
    let moves = read_both g.S.Store c.args.conn.now c.read_revisions.new.conn c.read_moves.new.conn c.in_ok-revisions.revisions _ _ revisions _ _ _ c.in_ok-moves.ensures in
    read_failed g.S.Store c.args.conn.now c.read_totals.new.conn c.in_err-totals.field-0.0 p.0 c.from_residual-in_err-totals.result _ _ _ _ p.1 p.2
    (read_both g.S.Store c.args.conn.now c.read_moves.new.conn c.read_totals.new.conn c.in_ok-moves.moves _ _ moves _ _ _ c.in_err-totals.ensures)

pub returns-in_err-pulled : goal.returns-in_err-pulled
returns-in_err-pulled g c =
    let p = err_from_is_err_and c.from_residual-in_err-pulled.result c.from_residual-in_err-pulled.ensures.1 in
    let batches = read_both g.S.Store c.args.conn.now c.read_version.new.conn c.read_batches.new.conn tt _ _ c.in_ok-read_version.ensures _ _ _ c.in_ok-batches.ensures in
    let sentences = read_both g.S.Store c.args.conn.now c.read_batches.new.conn c.read_sentences.new.conn c.in_ok-batches.batches _ _ batches _ _ _ c.in_ok-sentences.ensures in
    let revisions = read_both g.S.Store c.args.conn.now c.read_sentences.new.conn c.read_revisions.new.conn c.in_ok-sentences.sentences _ _ sentences _ _ _ c.in_ok-revisions.ensures in
    let moves = read_both g.S.Store c.args.conn.now c.read_revisions.new.conn c.read_moves.new.conn c.in_ok-revisions.revisions _ _ revisions _ _ _ c.in_ok-moves.ensures in
    let totals = read_both g.S.Store c.args.conn.now c.read_moves.new.conn c.read_totals.new.conn c.in_ok-moves.moves _ _ moves _ _ _ c.in_ok-totals.ensures in
    read_failed g.S.Store c.args.conn.now c.read_pulled.new.conn c.in_err-pulled.field-0.0 p.0 c.from_residual-in_err-pulled.result _ _ _ _ p.1 p.2
    (read_both g.S.Store c.args.conn.now c.read_totals.new.conn c.read_pulled.new.conn c.in_ok-totals.totals _ _ totals _ _ _ c.in_err-pulled.ensures)

pub returns : goal.returns
returns g c =
    let batches = read_both g.S.Store c.args.conn.now c.read_version.new.conn c.read_batches.new.conn tt _ _ c.in_ok-read_version.ensures _ _ _ c.in_ok-batches.ensures in
    let sentences = read_both g.S.Store c.args.conn.now c.read_batches.new.conn c.read_sentences.new.conn c.in_ok-batches.batches _ _ batches _ _ _ c.in_ok-sentences.ensures in
    let revisions = read_both g.S.Store c.args.conn.now c.read_sentences.new.conn c.read_revisions.new.conn c.in_ok-sentences.sentences _ _ sentences _ _ _ c.in_ok-revisions.ensures in
    let moves = read_both g.S.Store c.args.conn.now c.read_revisions.new.conn c.read_moves.new.conn c.in_ok-revisions.revisions _ _ revisions _ _ _ c.in_ok-moves.ensures in
    let totals = read_both g.S.Store c.args.conn.now c.read_moves.new.conn c.read_totals.new.conn c.in_ok-moves.moves _ _ moves _ _ _ c.in_ok-totals.ensures in
    let pulled = read_both g.S.Store c.args.conn.now c.read_totals.new.conn c.read_pulled.new.conn c.in_ok-totals.totals _ _ totals _ _ _ c.in_ok-pulled.ensures in
    let rows : TableRows = record {
      batches = c.in_ok-batches.batches;
      sentences = c.in_ok-sentences.sentences;
      revisions = c.in_ok-revisions.revisions;
      moves = c.in_ok-moves.moves;
      totals = c.in_ok-totals.totals;
      pulled = c.in_ok-pulled.pulled;
    } in
    read_as g.S.Store c.args.conn.now c.read_pulled.new.conn c.in_ok-pulled.pulled rows _ _ _ _ (λ t h listed. record { listed = listed; meta = h.0.0.0.0.0.0; batches = h.0.0.0.0.0.1; sentences = h.0.0.0.0.1; revisions = h.0.0.0.1; moves = h.0.0.1; totals = h.0.1; pulled = h.1 })
    (λ t d stands h i.
    let whole : AreStored (tables_in rows) t = record { listed = stands.listed; meta = h.0.0.0.0.0.0; batches = h.0.0.0.0.0.1; sentences = h.0.0.0.0.1; revisions = h.0.0.0.1; moves = h.0.0.1; totals = h.0.1; pulled = h.1 } in
    let same = c.one_list_for_the_rows.ensures (tables_in rows) d t whole stands in
    λ j. record { batches = same.batches j; sentences = same.sentences j; revisions = i.0.0.0.1 j; moves = same.moves j; totals = same.totals j; pulled = i.1 j })
    pulled
