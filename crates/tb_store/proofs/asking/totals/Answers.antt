use Rattle.std.proofs.Common.{◌≡◌, map, length, sym, ap, ◌∙◌, rules}
use Rattle.std.proofs.lemmas.List.{length-map}
use Rattle.tb_tables.specs.Values.{total_of}
use Rattle.tb_tables.specs.declared.rows.TotalRow.{TotalRow}
use Rattle.tb_reads.proofs.Shown.{if_ok}
use Rattle.tb_store.proofs.SixTotals.{totals_stand}
use Rattle.tb_refine.proofs.DeskReads.{read_stopped}
use Rattle.tb_commands.proofs.Fits.{read_fit}
use Rattle.tb_store.proofs.asking.totals.Goals as goal

pub returns-clause-answered : goal.returns-clause-answered
returns-clause-answered g c clean = if_ok c.six_totals.result c.six_totals.ensures.rows (λ t reported s desk.
    let same : c.as_slice.result.now ≡ c.in_ok-rows.rows.items = search rules in
    totals_stand s t c.in_ok-rows.rows.items (c.in_ok-rows.ensures.answered clean s desk) (reported.0 ∙ ap (map (λ (r : TotalRow). r.sentences)) same) (reported.1 ∙ ap (map (λ (r : TotalRow). r.words)) same))

pub returns-in_err-rows-clause-read : goal.returns-in_err-rows-clause-read
returns-in_err-rows-clause-read g c =
    read_stopped c.from_residual.result c.in_err-rows.field-0.0 c.from_residual.ensures.1 c.in_err-rows.ensures.read (λ clean s desk fails on. on fails)

pub returns-clause-read : goal.returns-clause-read
returns-clause-read g c =
    read_fit c.six_totals.result c.in_ok-rows.ensures.read.read_only c.six_totals.ensures.fault (λ clean unlimited s desk bad.
    let same : c.as_slice.result.now ≡ c.in_ok-rows.rows.items = search rules in
    c.six_totals.ensures.six bad (ap length same ∙ sym (length-map c.in_ok-rows.rows.items total_of) ∙ ap length (c.in_ok-rows.ensures.answered clean s desk)))
