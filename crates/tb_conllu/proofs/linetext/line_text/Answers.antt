use Rattle.std.proofs.Common.{refl, arith, ap, sym, ◌∙◌, ◌≡◌, Bool, false, true}
use Rattle.std.proofs.lemmas.Bool.{false≢true}
use Rattle.std.proofs.lemmas.Result.{err_from_is_err_and}
use Rattle.std.specs.List.{list_any}
use Rattle.tb_conllu.specs.Plain.{is_beyond_latin}
use Rattle.tb_conllu.specs.Lines.{is_nfc_text}
use Rattle.tb_conllu.proofs.TextCodes.{no_utf8_code, no_nfc_code, control_code}
use Rattle.tb_conllu.proofs.linetext.line_text.Goals as goal

pub returns-in_default-clause-err : goal.returns-in_default-clause-err
returns-in_default-clause-err c came = (refl, no_utf8_code came c.args.raw.now c.in_default.ensures, omega arith)

pub returns-then-not-branch-clause-err : goal.returns-then-not-branch-clause-err
returns-then-not-branch-clause-err c came =
    let text = c.in-Some.ensures in
    let none : is_nfc_text c.args.raw.now ≡ false = ap is_nfc_text (sym text.0) ∙ sym c.in_ok-is_composed.ensures.value ∙ c.if-not-branch.true in
    (refl, no_nfc_code came c.args.raw.now text.1 none, omega arith)

pub returns-then-any_control-clause-err : goal.returns-then-any_control-clause-err
returns-then-any_control-clause-err c came =
    let text = c.in-Some.ensures in
    let composed : is_nfc_text c.args.raw.now ≡ true = ap is_nfc_text (sym text.0) ∙ sym c.in_ok-is_composed.ensures.value ∙ c.if-not-branch.false in
    (refl, control_code came c.args.raw.now text.1 composed (sym c.any_control.ensures ∙ c.if-any_control.true), omega arith)

either : (b : Bool) → (b ≡ false → ⊥) → b ≡ true
either true h = refl
either false h = absurd (h refl)

pub returns-in_err-is_composed-clause-memory : goal.returns-in_err-is_composed-clause-memory
returns-in_err-is_composed-clause-memory c =
    let text = c.in-Some.ensures in
    let p = err_from_is_err_and c.from_residual.result c.from_residual.ensures.1 in
    rw p.1 (λ _. either (list_any is_beyond_latin c.args.raw.now) (λ latin. false≢true (c.in_err-is_composed.ensures.sure (ap (list_any is_beyond_latin) text.0 ∙ latin))))
