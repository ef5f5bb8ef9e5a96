use Rattle.std.proofs.Common.{arith}
use Rattle.tb_conllu.specs.Text.{BlockText}
use Rattle.tb_prefilter.specs.Prefiltered.{HasNeedles}
use Rattle.tb_search.specs.Released.{released}
use Rattle.tb_search.specs.Searched.{searched, IsValidText, Meets}
use Rattle.tb_search.specs.Visited.{IsFault}
use Rattle.tb_search.proofs.Seeking.{reads, asked_so, number_found, numbers, sought_fault}
use Rattle.tb_reads.proofs.ReadOnly.{read_none}
use Rattle.tb_search.proofs.Ends.{text_failed, text_read}
use Rattle.tb_search.proofs.search.number_released.Goals as goal

pub returns-clause-answered : goal.returns-clause-answered
returns-clause-answered g c clean s desk =
    let seeker = c.in_ok-seeker.seeker in
    let asked = c.in_ok-seeker.ensures.asked in
    let read = reads s (c.revisions_read_back.ensures s desk.reachable.reached) in
    let all = number_found (released s) read (record { seeker = seeker }) 0 c.visit_released.new.visitor c.visit_released.new.filled (c.in_ok-visit_released.ensures.taken clean s desk) in
    (all.0, asked_so _ _ _ _ (searched s) all.0 asked.1 asked.0 all.1, omega (arith, all.2.1))

pub returns-in_err-seeker-clause-read : goal.returns-in_err-seeker-clause-read
returns-in_err-seeker-clause-read g c =
    text_failed c.from_residual.result _ c.from_residual.ensures.1 (λ clean s desk. c.in_err-seeker.ensures.fault) (λ clean unlimited s desk. c.in_err-seeker.ensures.fails) (λ good clean unlimited s desk. c.in_err-seeker.ensures.cause) read_none

pub returns-in_err-visit_released-clause-read : goal.returns-in_err-visit_released-clause-read
returns-in_err-visit_released-clause-read g c =
    let walk = c.in_err-visit_released.ensures in
    text_failed c.from_residual-in_err-visit_released.result c.in_err-visit_released.field-0.0 c.from_residual-in_err-visit_released.ensures.1 (λ clean s desk.
    let read = reads s (c.revisions_read_back.ensures s desk.reachable.reached) in
    sought_fault (λ v o t w q. Meets v.seeker.strategy v.seeker.searcher.asked t (λ found. numbers v o found w q)) (λ v o t e q. HasNeedles v.seeker.searcher t × ((b : BlockText) → IsValidText b t → IsFault e)) (λ v o t e q stopped. stopped.1) (released s) read (record { seeker = c.in_ok-seeker.seeker }) 0 _ c.visit_released.new.filled (c.in_err-visit_released.ensures.halted clean s desk)) walk.fails walk.cause walk.read_only

pub returns-clause-read : goal.returns-clause-read
returns-clause-read g c = text_read c.in_ok-visit_released.ensures.read_only
