use Rattle.std.proofs.Common.{◌≡◌, true, cond, Ok, Err, sym, ◌∙◌, subst}
use Rattle.std.proofs.lemmas.Bool.{iff_false}
use Rattle.std.proofs.lemmas.Result.{err_from_is_err_and}
use Rattle.tb_core.specs.declared.kinds.State.TheVariants.{Withdrawn}
use Rattle.tb_core.specs.Names.{is_name}
use Rattle.tb_core.specs.Deciding.{correct_decision}
use Rattle.tb_core.specs.Commands.{correct, corrected_to, replied}
use Rattle.tb_core.specs.Steps.{Steps}
use Rattle.tb_core.specs.Found.{CurrentSeen}
use Rattle.tb_core.proofs.Corrections.{correct_repeat, correct_refused, correct_named}
use Rattle.tb_core.proofs.correcting.judge_correction_before.Goals as goal

pub returns-in_err-decide_correct-clause-refused : goal.returns-in_err-decide_correct-clause-refused
returns-in_err-decide_correct-clause-refused c =
    let reported = err_from_is_err_and c.from_residual.result c.from_residual.ensures.1 in
    let f = c.in-Some.current.now in
    rw (reported.1, reported.2) (λ l s h. correct_refused l s c.args.number c.args.base c.args.user.now c.args.body.now f c.in_err-decide_correct.field-0.0
    (sym c.good_name.ensures ∙ c.if-not-good_name.false)
    (rw c.in-Some.is at h)
    (iff_false c.is_resent.ensures c.if-is_resent.false)
    (subst (λ (v : CurrentSeen). correct_decision (cond f.pulled Withdrawn f.state) v.worker c.args.user.now c.args.base v.rev ≡ Err c.in_err-decide_correct.field-0.0) c.current.view_is
    (subst (λ z. correct_decision z c.current.inside.worker.now c.args.user.now c.args.base c.current.inside.rev ≡ Err c.in_err-decide_correct.field-0.0) c.standing.ensures
    (sym c.decide_correct.ensures ∙ c.in_err-decide_correct.was))))

pub returns-then-is_resent-clause-repeated : goal.returns-then-is_resent-clause-repeated
returns-then-is_resent-clause-repeated c = λ l s h.
    let good : is_name c.args.user.now ≡ true = sym c.good_name.ensures ∙ c.if-not-good_name.false in
    let seen = rw c.in-Some.is at h in
    subst (λ (v : CurrentSeen). Steps l s (correct c.args.number c.args.base c.args.user.now c.args.body.now) (replied (corrected_to (record { sentence = c.args.number; rev = v.rev; words = v.words }))) s) (sym c.current.view_is)
    (correct_repeat l s c.args.number c.args.base c.args.user.now c.args.body.now c.in-Some.current.now good seen (c.is_resent.ensures.0 c.if-is_resent.true))

pub returns-clause-goes : goal.returns-clause-goes
returns-clause-goes c = λ s place x h there.
    let f = c.in-Some.current.now in
    correct_named s c.args.number c.args.base c.args.user.now c.args.body.now f place x
    (sym c.good_name.ensures ∙ c.if-not-good_name.false)
    (rw c.in-Some.is at h)
    (iff_false c.is_resent.ensures c.if-is_resent.false)
    (subst (λ (v : CurrentSeen). correct_decision (cond f.pulled Withdrawn f.state) v.worker c.args.user.now c.args.base v.rev ≡ Ok tt) c.current.view_is
    (subst (λ z. correct_decision z c.current.inside.worker.now c.args.user.now c.args.base c.current.inside.rev ≡ Ok tt) c.standing.ensures
    (sym c.decide_correct.ensures ∙ c.in_ok-decide_correct.was)))
    there
