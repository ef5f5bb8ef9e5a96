use Rattle.tb_core.specs.declared.refusals.Fault.TheVariants.{NotADesk}
use Rattle.std.proofs.Common.{◌≡◌, length, ap, subst, ◌∙◌, Err}
use Rattle.std.proofs.lemmas.Result.{err_from_is_err_and}
use Rattle.std.proofs.lemmas.List.{length-map}
use Rattle.tb_core.specs.declared.refusals.Refusal.{Refusal}
use Rattle.tb_core.specs.Commands.{import_file, refused}
use Rattle.tb_core.specs.Steps.{Steps}
use Rattle.tb_core.specs.Taking.{taken_of}
use Rattle.tb_import.proofs.Left.{desk_stays}
use Rattle.tb_import.proofs.importing.admit.Goals as goal

pub returns-in_err-judge_import_after-clause-refused : goal.returns-in_err-judge_import_after-clause-refused
returns-in_err-judge_import_after-clause-refused g c clean r is s name user body bs desk known taken is_taken =
    let reported = err_from_is_err_and c.from_residual-in_err-judge_import_after.result c.from_residual-in_err-judge_import_after.ensures.1 in
    let one = reported.1 in
    let two = reported.2 in
    let same : c.in_err-judge_import_after.field-0.0 ≡ r = cc in
    let found = c.in_ok-standing.ensures.answered clean s bs desk known is_taken in
    let many = ap length is_taken ∙ length-map bs taken_of in
    let refusal = c.in_err-judge_import_after.ensures.refused s name user body bs taken found many (c.from.ensures ∙ known.sentences) (c.from-2.ensures ∙ known.counted.moves) in
    (subst (λ (q : Refusal). Steps c.args.known.now.counts.limits s (import_file name user body) (refused q) s) same refusal, desk_stays g.S.Store c.args.conn.now c.first_standing.new.conn c.in_ok-standing.ensures.look.stays clean s desk)

pub returns-clause-accepted : goal.returns-clause-accepted
returns-clause-accepted g c clean s name user body bs desk known taken is_taken =
    let found = c.in_ok-standing.ensures.answered clean s bs desk known is_taken in
    let many = ap length is_taken ∙ length-map bs taken_of in
    c.in_ok-judge_import_after.ensures.accepted s name user body bs taken found many (c.from.ensures ∙ known.sentences) (c.from-2.ensures ∙ known.counted.moves)

pub returns-in_err-standing-clause-fails : goal.returns-in_err-standing-clause-fails
returns-in_err-standing-clause-fails g c clean unlimited s desk bad =
    let reported = err_from_is_err_and c.from_residual.result c.from_residual.ensures.1 in
    let failed : c.first_standing.result ≡ Err NotADesk = let was = c.in_err-standing.was in let one = reported.1 in let two = reported.2 in cc in
    c.first_standing.ensures.look.fails clean unlimited s desk failed

pub returns-in_err-judge_import_after-clause-fails : goal.returns-in_err-judge_import_after-clause-fails
returns-in_err-judge_import_after-clause-fails g c clean unlimited s desk bad =
    let reported = err_from_is_err_and c.from_residual-in_err-judge_import_after.result c.from_residual-in_err-judge_import_after.ensures.1 in
    let one = reported.1 in
    let two = reported.2 in
    absurd cc

pub returns-in_err-judge_import_after-clause-cause : goal.returns-in_err-judge_import_after-clause-cause
returns-in_err-judge_import_after-clause-cause g c good clean unlimited has =
    let reported = err_from_is_err_and c.from_residual-in_err-judge_import_after.result c.from_residual-in_err-judge_import_after.ensures.1 in
    let two = reported.2 in
    rw reported.1 (λ bad. absurd cc)

pub returns-in_err-standing-clause-fresh : goal.returns-in_err-standing-clause-fresh
returns-in_err-standing-clause-fresh g c none bad =
    let told = c.first_standing.ensures.fresh none in
    let was = c.in_err-standing.was in
    absurd cc

pub returns-in_err-judge_import_after-clause-fresh : goal.returns-in_err-judge_import_after-clause-fresh
returns-in_err-judge_import_after-clause-fresh g c none bad =
    let reported = err_from_is_err_and c.from_residual-in_err-judge_import_after.result c.from_residual-in_err-judge_import_after.ensures.1 in
    let one = reported.1 in
    let two = reported.2 in
    absurd cc

pub returns-in_err-judge_import_after-clause-output : goal.returns-in_err-judge_import_after-clause-output
returns-in_err-judge_import_after-clause-output g c bad =
    let reported = err_from_is_err_and c.from_residual-in_err-judge_import_after.result c.from_residual-in_err-judge_import_after.ensures.1 in
    let one = reported.1 in
    let two = reported.2 in
    absurd cc
