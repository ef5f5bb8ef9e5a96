use Rattle.std.proofs.Common.{[], ◌∷◌, ap, ◌∙◌}
use Rattle.tb_conllu.specs.Text.{text_of}
use Rattle.tb_core.specs.Machine.{Revision}
use Rattle.tb_refine.proofs.Revised.{has_current}
use Rattle.tb_refine.proofs.RowsOfState.{current_is}
use Rattle.tb_refine.proofs.Unchanged.{desk_after}
use Rattle.tb_reads.proofs.ReadOnly.{read_then, was_clean}
use Rattle.tb_refine.proofs.DeskReads.{next_stopped, read_stopped, read_well}
use Rattle.tb_commands.proofs.correcting.find_current.Goals as goal

pub returns-clause-answered : goal.returns-clause-answered
returns-clause-answered g c clean s desk x there =
    let mid = was_clean c.revision_row.ensures.read.read_only clean in
    let first = c.in_ok-sentence.ensures.answered mid s desk x there in
    let still = desk_after c.in_ok-sentence.ensures.read.read_only mid desk in
    let row = c.in_ok-row.ensures.answered clean s still x there in
    let same = current_is x c.in_ok-sentence.sentence.rev row.0 first.rev row.1 in
    record { sentence = first; who = row.3 ∙ ap (λ (q : Revision). q.who) same; body = row.2 ∙ ap (λ (q : Revision). text_of (q.body ∷ [])) same }

pub returns-in_err-sentence-clause-read : goal.returns-in_err-sentence-clause-read
returns-in_err-sentence-clause-read g c =
    read_stopped c.from_residual.result c.in_err-sentence.field-0.0 c.from_residual.ensures.1 c.in_err-sentence.ensures.read (λ clean s desk fails on x there. on (fails x there))

pub returns-in_err-row-clause-read : goal.returns-in_err-row-clause-read
returns-in_err-row-clause-read g c =
    next_stopped c.from_residual-in_err-row.result c.in_err-row.field-0.0 c.from_residual-in_err-row.ensures.1 c.in_ok-sentence.ensures.read.read_only c.in_err-row.ensures.read (λ mid s desk fails on x there.
    let first = c.in_ok-sentence.ensures.answered mid s desk x there in
    on (fails x there x.current (has_current x c.in_ok-sentence.sentence.rev first.rev)))

pub returns-clause-read : goal.returns-clause-read
returns-clause-read g c = read_well (read_then c.in_ok-sentence.ensures.read.read_only c.in_ok-row.ensures.read.read_only) (λ s fine x there. fine)
