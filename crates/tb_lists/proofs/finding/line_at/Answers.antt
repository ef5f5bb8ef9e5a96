use Rattle.std.proofs.Common.{◌≡◌, ◌-◌, ap, arith, sym, subst, slice_get, Some, ◌∙◌, string_bytes}
use Rattle.tb_core.specs.Machine.{batch_with, rev, words}
use Rattle.tb_tables.specs.Records.{Batch, Sentence}
use Rattle.tb_refine.proofs.Unchanged.{desk_after}
use Rattle.tb_refine.proofs.Finds.{own_batch, placed_above}
use Rattle.tb_reads.proofs.ReadOnly.{read_then, was_clean}
use Rattle.tb_refine.proofs.DeskReads.{next_stopped, read_nothing, read_stopped, read_well}
use Rattle.tb_lists.proofs.finding.line_at.Goals as goal

pub returns-clause-answered : goal.returns-clause-answered
returns-clause-answered g c clean s desk x there =
    let late = was_clean c.is_pulled.ensures.read.read_only clean in
    let mid = was_clean c.batch_row.ensures.read.read_only late in
    let row = c.in_ok-row.ensures.answered mid s desk x there in
    let first = desk_after c.in_ok-row.ensures.read.read_only mid desk in
    let second = desk_after c.in_ok-batch.ensures.read.read_only late first in
    let well = c.reached_states_are_well.ensures s desk.reachable.reached in
    let own = own_batch s (c.args.number - 1) x well.placed there in
    let numbered : c.in_ok-row.row.batch ≡ x.batch = ap (λ (r : Sentence). r.batch) row in
    let of = c.in_ok-batch.ensures.answered late s first (batch_with s.batches x.batch) (subst (λ n. slice_get s.batches (n - 1) ≡ Some (batch_with s.batches x.batch)) (sym numbered) own) in
    let name : string_bytes c.in_ok-batch.batch.name ≡ (batch_with s.batches x.batch).name = ap (λ (b : Batch). b.name) of in
    let revised : c.in_ok-row.row.rev ≡ rev x = ap (λ (r : Sentence). r.rev) row in
    let counted : c.in_ok-row.row.words ≡ words x = ap (λ (r : Sentence). r.words) row in
    let pulled = c.in_ok-pulled.ensures.answered clean s second x there in
    c.line_of.ensures ∙ (λ i. record { no = c.args.number; batch = name i; rev = revised i; words = counted i; pulled = pulled i })

pub returns-then-number-eq0-clause-read : goal.returns-then-number-eq0-clause-read
returns-then-number-eq0-clause-read g c = read_nothing (λ s desk above. absurd (omega (arith, above, c.if-number-eq0.true)))

pub returns-in_err-row-clause-read : goal.returns-in_err-row-clause-read
returns-in_err-row-clause-read g c =
    read_stopped c.from_residual.result c.in_err-row.field-0.0 c.from_residual.ensures.1 c.in_err-row.ensures.read (λ clean s desk fails on above x there. on (fails x there))

pub returns-in_err-batch-clause-read : goal.returns-in_err-batch-clause-read
returns-in_err-batch-clause-read g c =
    next_stopped c.from_residual-in_err-batch.result c.in_err-batch.field-0.0 c.from_residual-in_err-batch.ensures.1 c.in_ok-row.ensures.read.read_only c.in_err-batch.ensures.read (λ mid s desk fails on above x there.
    let row = c.in_ok-row.ensures.answered mid s desk x there in
    let well = c.reached_states_are_well.ensures s desk.reachable.reached in
    let own = own_batch s (c.args.number - 1) x well.placed there in
    let numbered : c.in_ok-row.row.batch ≡ x.batch = ap (λ (r : Sentence). r.batch) row in
    let own_above = placed_above s (c.args.number - 1) x well.placed there in
    on (fails (omega (arith, own_above, numbered)) (batch_with s.batches x.batch) (subst (λ n. slice_get s.batches (n - 1) ≡ Some (batch_with s.batches x.batch)) (sym numbered) own)))

pub returns-in_err-pulled-clause-read : goal.returns-in_err-pulled-clause-read
returns-in_err-pulled-clause-read g c =
    next_stopped c.from_residual-in_err-pulled.result c.in_err-pulled.field-0.0 c.from_residual-in_err-pulled.ensures.1 (read_then c.in_ok-row.ensures.read.read_only c.in_ok-batch.ensures.read.read_only) c.in_err-pulled.ensures.read (λ mid s desk fails on above x there. on fails)

pub returns-clause-read : goal.returns-clause-read
returns-clause-read g c = read_well (read_then (read_then c.in_ok-row.ensures.read.read_only c.in_ok-batch.ensures.read.read_only) c.in_ok-pulled.ensures.read.read_only) (λ s fine above x there. fine)
