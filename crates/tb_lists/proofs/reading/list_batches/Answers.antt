use Rattle.std.proofs.Common.{◌≡◌, ◌∙◌, length, map, ap, sym, arith, rules, slice_index_or}
use Rattle.std.proofs.lemmas.List.{length-map}
use Rattle.tb_tables.specs.Values.{batch_of}
use Rattle.tb_reads.proofs.Shown.{if_ok}
use Rattle.tb_refine.specs.DeskTables.{batch_record}
use Rattle.tb_refine.proofs.Unchanged.{desk_after}
use Rattle.tb_lists.specs.Counted.{no_count}
use Rattle.tb_lists.proofs.Summed.{lines_are}
use Rattle.tb_reads.proofs.ReadOnly.{read_then, was_clean}
use Rattle.tb_refine.proofs.DeskReads.{next_stopped, read_made, read_stopped}
use Rattle.tb_lists.proofs.reading.list_batches.Goals as goal

pub returns-clause-answered : goal.returns-clause-answered
returns-clause-answered g c clean = if_ok c.lines_of.result c.lines_of.ensures.lines (λ v reported s desk.
    let mid = was_clean c.read_counts.ensures.read.read_only clean in
    let first = desk_after c.in_ok-batches.ensures.read.read_only mid desk in
    let rows : c.as_slice.result.now ≡ c.in_ok-batches.batches.items = search rules in
    let counts : c.as_slice-2.result.now ≡ c.in_ok-counts.counts.items = search rules in
    let are = c.in_ok-batches.ensures.answered mid s desk in
    let size : c.len.result ≡ length s.batches = search rules ∙ sym (length-map c.in_ok-batches.batches.items batch_of) ∙ ap length are ∙ length-map s.batches batch_record in
    let found = c.in_ok-counts.ensures.answered clean s first in
    reported s.batches (ap (map batch_of) rows ∙ are)
    ∙ lines_are c.as_slice-2.result.now s.sentences 0 s.batches (λ place within. ap (λ l. slice_index_or l place no_count) counts ∙ found place (omega (arith, within, size))))

pub returns-in_err-batches-clause-read : goal.returns-in_err-batches-clause-read
returns-in_err-batches-clause-read g c =
    read_stopped c.from_residual.result c.in_err-batches.field-0.0 c.from_residual.ensures.1 c.in_err-batches.ensures.read (λ clean s desk fails on. on fails)

pub returns-in_err-counts-clause-read : goal.returns-in_err-counts-clause-read
returns-in_err-counts-clause-read g c =
    next_stopped c.from_residual-in_err-counts.result c.in_err-counts.field-0.0 c.from_residual-in_err-counts.ensures.1 c.in_ok-batches.ensures.read.read_only c.in_err-counts.ensures.read (λ clean s desk fails on. on fails)

pub returns-clause-read : goal.returns-clause-read
returns-clause-read g c =
    read_made c.lines_of.result (read_then c.in_ok-batches.ensures.read.read_only c.in_ok-counts.ensures.read.read_only) c.lines_of.ensures.never_refuses c.lines_of.ensures.output c.lines_of.ensures.cause (λ clean unlimited s desk bad.
    let mid = was_clean c.read_counts.ensures.read.read_only clean in
    let rows : c.as_slice.result.now ≡ c.in_ok-batches.batches.items = search rules in
    c.lines_of.ensures.known bad s.batches (ap (map batch_of) rows ∙ c.in_ok-batches.ensures.answered mid s desk))
