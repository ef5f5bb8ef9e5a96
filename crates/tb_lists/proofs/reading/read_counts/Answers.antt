use Rattle.std.proofs.Common.{◌≡◌, ◌∙◌, length, map, ap, sym, arith, rules}
use Rattle.std.proofs.lemmas.List.{length-map}
use Rattle.tb_tables.specs.Values.{sentence_of}
use Rattle.tb_reads.proofs.Shown.{if_ok}
use Rattle.tb_refine.specs.DeskTables.{sentence_record}
use Rattle.tb_refine.proofs.Unchanged.{desk_after}
use Rattle.tb_reads.proofs.ReadOnly.{read_then, was_clean}
use Rattle.tb_refine.proofs.DeskReads.{next_stopped, read_made, read_stopped}
use Rattle.tb_lists.proofs.reading.read_counts.Goals as goal

pub returns-clause-answered : goal.returns-clause-answered
returns-clause-answered g c clean = if_ok c.counts_of.result c.counts_of.ensures.answered (λ v reported s desk.
    let mid = was_clean c.read_pulled.ensures.read.read_only clean in
    let first = desk_after c.in_ok-rows.ensures.read.read_only mid desk in
    let rows : c.as_slice.result.now ≡ c.in_ok-rows.rows.items = search rules in
    let pulled : c.as_slice-2.result.now ≡ c.in_ok-pulled.pulled.items = search rules in
    reported s.sentences (ap (map sentence_of) rows ∙ c.in_ok-rows.ensures.answered mid s desk) (pulled ∙ c.in_ok-pulled.ensures.answered clean s first))

pub returns-in_err-rows-clause-read : goal.returns-in_err-rows-clause-read
returns-in_err-rows-clause-read g c =
    read_stopped c.from_residual.result c.in_err-rows.field-0.0 c.from_residual.ensures.1 c.in_err-rows.ensures.read (λ clean s desk fails on. on fails)

pub returns-in_err-pulled-clause-read : goal.returns-in_err-pulled-clause-read
returns-in_err-pulled-clause-read g c =
    next_stopped c.from_residual-in_err-pulled.result c.in_err-pulled.field-0.0 c.from_residual-in_err-pulled.ensures.1 c.in_ok-rows.ensures.read.read_only c.in_err-pulled.ensures.read (λ clean s desk fails on. on fails)

pub returns-clause-read : goal.returns-clause-read
returns-clause-read g c =
    read_made c.counts_of.result (read_then c.in_ok-rows.ensures.read.read_only c.in_ok-pulled.ensures.read.read_only) c.counts_of.ensures.never_refuses c.counts_of.ensures.output c.counts_of.ensures.cause (λ clean unlimited s desk bad.
    let mid = was_clean c.read_pulled.ensures.read.read_only clean in
    let rows : c.as_slice.result.now ≡ c.in_ok-rows.rows.items = search rules in
    let are = c.in_ok-rows.ensures.answered mid s desk in
    let size : length c.as_slice.result.now ≡ length s.sentences = ap length rows ∙ sym (length-map c.in_ok-rows.rows.items sentence_of) ∙ ap length are ∙ length-map s.sentences sentence_record in
    let few = desk.reachable.sentences in
    c.counts_of.ensures.fails bad (omega (arith, few, size)))
