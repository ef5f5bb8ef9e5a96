use Rattle.std.proofs.Common.{◌≡◌, rules, ◌∙◌}
use Rattle.std.proofs.lemmas.Result.{err_from_is_err_and}
use Rattle.tb_tables.specs.Records.{sentence_view}
use Rattle.tb_reads.proofs.Shown.{if_ok}
use Rattle.tb_refine.specs.DeskTables.{tables_of}
use Rattle.tb_verify.proofs.Rises.{sentences_fit}
use Rattle.tb_verify.proofs.Version1Answered.{sentences_selected}
use Rattle.tb_verify.proofs.Version1Reads.{selected_rows, selected_none, read_told, shows_read}
use Rattle.tb_verify.proofs.version1_reading.read_version1_sentences.Goals as goal

pub returns-in_err-rows : goal.returns-in_err-rows
returns-in_err-rows g c =
    let p = err_from_is_err_and c.from_residual.result c.from_residual.ensures.1 in
    let all = sentences_selected g.S.Store c.args.conn.now c.query_all.new.self (λ v. v.items) c.query_all.result (record { ok = c.query_all.ensures.ok; err = c.query_all.ensures.err; mode = c.query_all.ensures.mode; survives = c.query_all.ensures.survives }) in
    selected_none g.S.Store c.args.conn.now c.query_all.new.self c.query_all.result _ all c.answered.result c.in_err-rows.field-0.0 p.0 c.from_residual.result _ c.in_err-rows.was p.1 p.2 c.answered.ensures.no_form c.answered.ensures.never_refuses c.answered.ensures.output c.answered.ensures.cause

pub returns : goal.returns
returns g c =
    let all = sentences_selected g.S.Store c.args.conn.now c.query_all.new.self (λ v. v.items) c.query_all.result (record { ok = c.query_all.ensures.ok; err = c.query_all.ensures.err; mode = c.query_all.ensures.mode; survives = c.query_all.ensures.survives }) in
    let h = selected_rows g.S.Store c.args.conn.now c.query_all.new.self c.query_all.result _ all c.answered.result c.in_ok-rows.rows c.answered.ensures.value c.in_ok-rows.was in
    let read : c.as_slice.result.now ≡ c.in_ok-rows.rows.items = search rules in
    read_told g.S.Store c.args.conn.now c.query_all.new.self _ _ h c.sentences_in.result c.reported.result _ c.reported.ensures.value c.reported.ensures.form c.reported.ensures.cause c.reported.ensures.never_refuses c.reported.ensures.output c.sentences_in.ensures.cause
    (λ clean. if_ok c.sentences_in.result c.sentences_in.ensures.ok (λ v is has. shows_read sentence_view _ c.in_ok-rows.rows.items c.as_slice.result.now _ read is (h.are clean has).0))
    (λ clean has failed s reach stands. c.sentences_in.ensures.form failed (tables_of s).sentences (sentences_fit (tables_of s).sentences (c.desk_rows_are_readable.ensures s reach).sentences) (read ∙ (h.are clean has).1 (tables_of s).sentences stands.sentences))
    h.same
