use Rattle.std.proofs.Common.{refl, arith, sym, ◌∙◌}
use Rattle.std.proofs.lemmas.Result.{err_from_is_err_and}
use Rattle.tb_conllu.proofs.Steps.{first_comment_code, word_line_code, late_comment_code}
use Rattle.tb_conllu.proofs.growing.take_line.Goals as goal

pub returns-then-any_row-clause-err : goal.returns-then-any_row-clause-err
returns-then-any_row-clause-err c =
    (refl, late_comment_code _ c.args.text.now c.requires.text c.requires.filled (sym c.is_hashed.ensures ∙ c.if-is_hashed.true) (sym c.any_row.ensures ∙ c.if-any_row.true), omega arith)

pub returns-in-Err-clause-err : goal.returns-in-Err-clause-err
returns-in-Err-clause-err c =
    let e = c.in-Err.ensures.code in
    (refl, word_line_code _ c.args.text.now c.requires.text c.requires.filled (sym c.is_hashed.ensures ∙ c.if-is_hashed.false) ∙ e.0, e.1)

pub returns-in_err-add_comment-clause-memory : goal.returns-in_err-add_comment-clause-memory
returns-in_err-add_comment-clause-memory c =
    let p = err_from_is_err_and c.from_residual.result c.from_residual.ensures.1 in
    rw p.1 (λ _. first_comment_code _ c.args.text.now c.requires.text c.requires.filled (sym c.is_hashed.ensures ∙ c.if-is_hashed.true) (sym c.any_row.ensures ∙ c.if-any_row.false))

pub returns-then-is_hashed-clause-clean : goal.returns-then-is_hashed-clause-clean
returns-then-is_hashed-clause-clean c =
    first_comment_code _ c.args.text.now c.requires.text c.requires.filled (sym c.is_hashed.ensures ∙ c.if-is_hashed.true) (sym c.any_row.ensures ∙ c.if-any_row.false)

pub returns-in_err-add_row-in-Ok-clause-memory : goal.returns-in_err-add_row-in-Ok-clause-memory
returns-in_err-add_row-in-Ok-clause-memory c =
    let p = err_from_is_err_and c.from_residual-in_err-add_row-in-Ok.result c.from_residual-in_err-add_row-in-Ok.ensures.1 in
    rw p.1 (λ _. word_line_code _ c.args.text.now c.requires.text c.requires.filled (sym c.is_hashed.ensures ∙ c.if-is_hashed.false) ∙ c.in-Ok.ensures.ok.0)

pub returns-in_ok-add_row-in-Ok-clause-clean : goal.returns-in_ok-add_row-in-Ok-clause-clean
returns-in_ok-add_row-in-Ok-clause-clean c =
    word_line_code _ c.args.text.now c.requires.text c.requires.filled (sym c.is_hashed.ensures ∙ c.if-is_hashed.false) ∙ c.in-Ok.ensures.ok.0
