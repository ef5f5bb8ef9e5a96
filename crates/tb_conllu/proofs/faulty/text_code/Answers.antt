use Rattle.std.proofs.Common.{sym, ◌∙◌}
use Rattle.std.proofs.lemmas.Bool.{cond-true, cond-false}
use Rattle.tb_conllu.proofs.RowLines.{text_code}
use Rattle.tb_conllu.proofs.Steps.{word_line_code, late_comment_code, first_comment_code}
use Rattle.tb_conllu.proofs.faulty.text_code.Goals as goal

pub returns-then-came : goal.returns-then-came
returns-then-came c = sym (text_code c.args.came c.args.text.now c.requires ∙ cond-true _ _ _ (sym c.if-is_empty_text.ensures) ∙ cond-true _ _ _ c.if-came.true)

pub returns-else-came : goal.returns-else-came
returns-else-came c = sym (text_code c.args.came c.args.text.now c.requires ∙ cond-true _ _ _ (sym c.if-is_empty_text.ensures) ∙ cond-false _ _ _ c.if-came.false)

pub returns-then-came-2 : goal.returns-then-came-2
returns-then-came-2 c = sym (late_comment_code c.args.came c.args.text.now c.requires (sym c.if-is_empty_text.ensures) (sym c.if-is_hashed.ensures) c.if-came-2.true)

pub returns-else-came-2 : goal.returns-else-came-2
returns-else-came-2 c = sym (first_comment_code c.args.came c.args.text.now c.requires (sym c.if-is_empty_text.ensures) (sym c.if-is_hashed.ensures) c.if-came-2.false)

pub returns-in-Ok : goal.returns-in-Ok
returns-in-Ok c = sym (word_line_code c.args.came c.args.text.now c.requires (sym c.if-is_empty_text.ensures) (sym c.if-is_hashed.ensures) ∙ c.in-Ok.ensures.ok.0)

pub returns-in-Err : goal.returns-in-Err
returns-in-Err c = sym (word_line_code c.args.came c.args.text.now c.requires (sym c.if-is_empty_text.ensures) (sym c.if-is_hashed.ensures) ∙ c.in-Err.ensures.code.0)
