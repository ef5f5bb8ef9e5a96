use Rattle.std.proofs.Common.{◌∷◌, [], length, sym, ◌∙◌, ap, subst}
use Rattle.std.proofs.lemmas.Result.{err_from_is_err_and}
use Rattle.tb_core.proofs.Lists.{head_is}
use Rattle.tb_rules.specs.Rules.{KeepsRules}
use Rattle.tb_verify.proofs.Rereading.{own_file}
use Rattle.tb_verify.proofs.Unreported.{no_read_fault, no_rule_fault}
use Rattle.tb_verify.proofs.body.sentence_in.Goals as goal

pub returns-in_err-blocks-clause-unfit : goal.returns-in_err-blocks-clause-unfit
returns-in_err-blocks-clause-unfit c = λ q b h e.
    let p = err_from_is_err_and c.from_residual.result c.from_residual.ensures.1 in
    no_read_fault c.from_residual.result p.0 c.in_err-blocks.field-0.0 p.1 p.2 (c.in_err-blocks.ensures.only (b ∷ []) (own_file b c.as_bytes.result.now h (e ∙ sym c.as_bytes.ensures.value))) q

pub returns-in_err-block-clause-unfit : goal.returns-in_err-block-clause-unfit
returns-in_err-block-clause-unfit c = λ q b h e.
    c.in_err-block.ensures.other.1 (ap length (c.in_ok-blocks.ensures.only (b ∷ []) (own_file b c.as_bytes.result.now h (e ∙ sym c.as_bytes.ensures.value))))

pub returns-in_err-check-clause-unfit : goal.returns-in_err-check-clause-unfit
returns-in_err-check-clause-unfit c = λ q b h e.
    let p = err_from_is_err_and c.from_residual-in_err-check.result c.from_residual-in_err-check.ensures.1 in
    let read = c.in_ok-blocks.ensures.only (b ∷ []) (own_file b c.as_bytes.result.now h (e ∙ sym c.as_bytes.ensures.value)) in
    let same = head_is b c.in_ok-block.block [] [] (sym read ∙ c.in_ok-block.ensures.one) in
    no_rule_fault c.from_residual-in_err-check.result p.0 c.in_err-check.field-0.0 p.1 p.2 (c.in_err-check.ensures.only (subst KeepsRules same h.rules)) q
