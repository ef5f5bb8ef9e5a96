use Rattle.std.proofs.Common.{Err, ◌≡◌, map, refl, ap, ◌∙◌, rules}
use Rattle.tb_core.specs.Rows.{pulled_from}
use Rattle.tb_tables.specs.Records.{batch_shown, batch_view}
use Rattle.tb_tables.specs.Values.{batch_of}
use Rattle.tb_refine.specs.DeskTables.{batch_record}
use Rattle.tb_reads.proofs.Shown.{if_ok}
use Rattle.tb_search.proofs.OneList.{one_list, same_batch}
use Rattle.tb_search.proofs.Rises.{pulled_rise, batches_fit}
use Rattle.tb_reads.proofs.ReadOnly.{read_then, was_clean}
use Rattle.tb_refine.proofs.Unchanged.{desk_after}
use Rattle.tb_search.proofs.Ends.{tables_failed, text_made, text_next}
use Rattle.tb_search.proofs.released.released_among.Goals as goal

pub returns-clause-picked : goal.returns-clause-picked
returns-clause-picked g c clean = if_ok c.released_of.result c.released_of.ensures.picked (λ v reported s desk heads_are.
    let mid = was_clean c.pulled.ensures.read_only clean in
    let still = desk_after c.in_ok-batches.ensures.read_only mid desk in
    let read_batches : c.as_slice.result.now ≡ c.in_ok-batches.batches.items = search rules in
    let read_pulled : c.as_slice-2.result.now ≡ c.in_ok-pulled.pulled.items = search rules in
    let batches_are : map batch_of c.in_ok-batches.batches.items ≡ map batch_record s.batches =
    one_list batch_shown (λ n x. refl) same_batch batch_view (map batch_record s.batches) (map batch_of c.in_ok-batches.batches.items) _ desk.holds.stands.batches (c.in_ok-batches.ensures.ok mid desk.holds.schema) in
    let pulled_are = c.in_ok-pulled.ensures.order clean still.holds.schema (pulled_from 1 s.sentences) (pulled_rise 1 s.sentences) still.holds.stands.pulled in
    reported s.batches s.sentences (ap (map batch_of) read_batches ∙ batches_are) (read_pulled ∙ pulled_are) heads_are)

pub returns-in_err-batches-clause-read : goal.returns-in_err-batches-clause-read
returns-in_err-batches-clause-read g c =
    tables_failed c.from_residual.result c.in_err-batches.field-0.0 c.from_residual.ensures.1 c.in_err-batches.ensures.fails c.in_err-batches.ensures.cause (λ clean s desk unfit.
    let readable = c.desk_rows_are_readable.ensures s desk.reachable in
    c.in_err-batches.ensures.form clean (ap Err unfit) desk.holds.schema (map batch_record s.batches) (batches_fit (map batch_record s.batches) readable.batches) desk.holds.stands.batches) c.in_err-batches.ensures.read_only

pub returns-in_err-pulled-clause-read : goal.returns-in_err-pulled-clause-read
returns-in_err-pulled-clause-read g c =
    let residual = c.from_residual-in_err-pulled in
    text_next residual.result c.in_ok-batches.ensures.read_only
    (tables_failed residual.result c.in_err-pulled.field-0.0 residual.ensures.1 c.in_err-pulled.ensures.fails c.in_err-pulled.ensures.cause (λ clean s still unfit.
    let readable = c.desk_rows_are_readable.ensures s still.reachable in
    c.in_err-pulled.ensures.form clean (ap Err unfit) still.holds.schema (pulled_from 1 s.sentences) readable.pulled (pulled_rise 1 s.sentences) still.holds.stands.pulled) c.in_err-pulled.ensures.read_only)

pub returns-clause-read : goal.returns-clause-read
returns-clause-read g c =
    text_made c.released_of.result c.released_of.ensures.fault c.released_of.ensures.fails c.released_of.ensures.cause (read_then c.in_ok-batches.ensures.read_only c.in_ok-pulled.ensures.read_only)
