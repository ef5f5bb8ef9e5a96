use Rattle.std.proofs.Common.{ap, string_bytes, ◌∙◌}
use Rattle.tb_tables.specs.Records.{Batch}
use Rattle.tb_reads.proofs.Shown.{if_ok}
use Rattle.tb_refine.proofs.DeskReads.{read_stopped}
use Rattle.tb_commands.proofs.Fits.{read_fit}
use Rattle.tb_commands.proofs.finding.batch.Goals as goal

pub returns-clause-answered : goal.returns-clause-answered
returns-clause-answered g c clean = if_ok c.read_batch.result c.read_batch.ensures.batch (λ f read s desk b there.
    let row = c.in_ok-row.ensures.answered clean s desk b there in
    let it = read b.state (ap (λ (r : Batch). r.state) row) in
    (it.0, it.1, ap string_bytes it.2 ∙ ap (λ (r : Batch). r.worker) row))

pub returns-in_err-row-clause-read : goal.returns-in_err-row-clause-read
returns-in_err-row-clause-read g c =
    read_stopped c.from_residual.result c.in_err-row.field-0.0 c.from_residual.ensures.1 c.in_err-row.ensures.read (λ clean s desk fails on above b there. on (fails above b there))

pub returns-clause-read : goal.returns-clause-read
returns-clause-read g c =
    read_fit c.read_batch.result c.in_ok-row.ensures.read.read_only c.read_batch.ensures.fault (λ clean unlimited s desk above b there bad.
    let row = c.in_ok-row.ensures.answered clean s desk b there in
    c.read_batch.ensures.fails b.state (ap (λ (r : Batch). r.state) row) bad)
