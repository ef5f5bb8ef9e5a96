use Rattle.std.proofs.Common.{◌≡◌, ◌∙◌, rules}
use Rattle.tb_reads.proofs.Shown.{if_ok}
use Rattle.tb_refine.proofs.Unchanged.{desk_after}
use Rattle.tb_commands.proofs.Summing.{sums_stand, work_fits}
use Rattle.tb_reads.proofs.ReadOnly.{read_then, was_clean}
use Rattle.tb_refine.proofs.DeskReads.{next_stopped, read_stopped}
use Rattle.tb_commands.proofs.Fits.{read_fit}
use Rattle.tb_commands.proofs.working.find_work.Goals as goal

pub returns-clause-answered : goal.returns-clause-answered
returns-clause-answered g c clean = if_ok c.sums_of.result c.sums_of.ensures.value (λ r reported s desk.
    let mid = was_clean c.read_pulled.ensures.read.read_only clean in
    let first = desk_after c.in_ok-work.ensures.read.read_only mid desk in
    let work : c.as_slice.result.now ≡ c.in_ok-work.work.items = search rules in
    let pulled : c.as_slice-2.result.now ≡ c.in_ok-pulled.pulled.items = search rules in
    sums_stand s.sentences c.args.number c.as_slice.result.now c.as_slice-2.result.now r.sentences r.words (work ∙ c.in_ok-work.ensures.answered mid s desk) (pulled ∙ c.in_ok-pulled.ensures.answered clean s first) reported)

pub returns-in_err-work-clause-read : goal.returns-in_err-work-clause-read
returns-in_err-work-clause-read g c =
    read_stopped c.from_residual.result c.in_err-work.field-0.0 c.from_residual.ensures.1 c.in_err-work.ensures.read (λ clean s desk fails on. on fails)

pub returns-in_err-pulled-clause-read : goal.returns-in_err-pulled-clause-read
returns-in_err-pulled-clause-read g c =
    next_stopped c.from_residual-in_err-pulled.result c.in_err-pulled.field-0.0 c.from_residual-in_err-pulled.ensures.1 c.in_ok-work.ensures.read.read_only c.in_err-pulled.ensures.read (λ clean s desk fails on. on fails)

pub returns-clause-read : goal.returns-clause-read
returns-clause-read g c =
    read_fit c.sums_of.result (read_then c.in_ok-work.ensures.read.read_only c.in_ok-pulled.ensures.read.read_only) c.sums_of.ensures.fault (λ clean unlimited s desk bad.
    let mid = was_clean c.read_pulled.ensures.read.read_only clean in
    let well = c.reached_states_are_well.ensures s desk.reachable.reached in
    let work : c.as_slice.result.now ≡ c.in_ok-work.work.items = search rules in
    let fits = work_fits s c.args.number c.as_slice.result.now well desk.reachable.sentences (work ∙ c.in_ok-work.ensures.answered mid s desk) in
    c.sums_of.ensures.fails fits.0 fits.1 bad)
