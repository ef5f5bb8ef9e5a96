use Rattle.std.proofs.Common.{◌≡◌, [], ◌∷◌, ap, ◌∙◌, rules}
use Rattle.tb_conllu.specs.Text.{text_of}
use Rattle.tb_core.specs.Machine.{Revision}
use Rattle.tb_refine.proofs.RowsOfState.{current_is}
use Rattle.tb_refine.proofs.Unchanged.{desk_after}
use Rattle.tb_refine.proofs.Revised.{has_current}
use Rattle.tb_reads.proofs.ReadOnly.{read_then, was_clean}
use Rattle.tb_refine.proofs.DeskReads.{next_stopped, read_stopped, read_well}
use Rattle.tb_store.proofs.asking.sentence.Goals as goal

pub returns-clause-answered : goal.returns-clause-answered
returns-clause-answered g c clean s desk x there =
    let mid = was_clean c.text.ensures.read.read_only clean in
    let rev_is = c.in_ok-rev.ensures.answered mid s desk x there in
    let still = desk_after c.in_ok-rev.ensures.read.read_only mid desk in
    let read = c.in_ok-body.ensures.answered clean s still x there in
    let counted : c.from.result ≡ c.in_ok-rev.rev = search rules in
    (counted ∙ rev_is, read.2 ∙ ap (λ (q : Revision). text_of (q.body ∷ [])) (current_is x c.in_ok-rev.rev read.0 rev_is read.1))

pub returns-in_err-rev-clause-read : goal.returns-in_err-rev-clause-read
returns-in_err-rev-clause-read g c =
    read_stopped c.from_residual.result c.in_err-rev.field-0.0 c.from_residual.ensures.1 c.in_err-rev.ensures.read (λ clean s desk fails on x there. on (fails x there))

pub returns-in_err-body-clause-read : goal.returns-in_err-body-clause-read
returns-in_err-body-clause-read g c =
    next_stopped c.from_residual-in_err-body.result c.in_err-body.field-0.0 c.from_residual-in_err-body.ensures.1 c.in_ok-rev.ensures.read.read_only c.in_err-body.ensures.read (λ mid s desk fails on x there.
    let rev_is = c.in_ok-rev.ensures.answered mid s desk x there in
    on (fails x there x.current (has_current x c.in_ok-rev.rev rev_is)))

pub returns-clause-read : goal.returns-clause-read
returns-clause-read g c = read_well (read_then c.in_ok-rev.ensures.read.read_only c.in_ok-body.ensures.read.read_only) (λ s fine x there. fine)
