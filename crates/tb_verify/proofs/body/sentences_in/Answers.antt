use Rattle.std.proofs.Common.{sym, ◌∙◌, arith, string_bytes}
use Rattle.std.proofs.lemmas.Result.{err_from_is_err_and}
use Rattle.tb_core.specs.Machine.{IsLawful}
use Rattle.tb_tables.specs.declared.rows.RevisionRow.{RevisionRow}
use Rattle.tb_verify.specs.Course.{own_text}
use Rattle.tb_verify.proofs.Agreeing.{met_at}
use Rattle.tb_verify.proofs.Unreported.{passed_on_as}
use Rattle.tb_verify.proofs.body.sentences_in.Goals as goal

pub returns-in_err-block-clause-unfit : goal.returns-in_err-block-clause-unfit
returns-in_err-block-clause-unfit c = λ q bs h e.
    let p = err_from_is_err_and c.from_residual.result c.from_residual.ensures.1 in
    let m = met_at IsLawful own_text (λ (r : RevisionRow). string_bytes r.body) bs c.args.rows.now c.loop-row.row-index c.row-item.result h e (omega (arith, c.loop-row-test.true)) c.row-item.is in
    c.in_err-block.ensures.unfit (passed_on_as c.from_residual.result p.0 c.in_err-block.field-0.0 p.1 p.2 q) m.0 m.1 (m.2 ∙ sym c.as_str.ensures.value)
