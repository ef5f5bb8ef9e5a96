use Rattle.std.proofs.Common.{◌≡◌, ◌≤◌, ◌∙◌, ap, arith, drop, filter, length, List}
use Rattle.std.proofs.lemmas.List.Sums.{length-filter}
use Rattle.tb_conllu.specs.Text.{RowText, BlockText}
use Rattle.tb_conllu.specs.Words.{is_word}
use Rattle.tb_query.specs.Meaning.{value_of, word_rows}
use Rattle.tb_report.proofs.HitTexts.{lone_text}
use Rattle.tb_report.proofs.keys.KeyWalk.word_key.Goals as goal

pub returns-clause-key : goal.returns-clause-key
returns-clause-key g c =
    let i = c.args.hit.0 in
    let words = word_rows c.args.self.now in
    let rows = filter is_word c.rows_after-rest.result.now in
    let same : rows ≡ drop i words = c.rows_after-rest.ensures ∙ ap (λ (rs : List RowText). drop i (filter is_word rs)) c.deref.ensures.value ∙ ap (λ (b : BlockText). drop i (word_rows b)) (c.block.view_is ∙ c.self.view_is) in
    let many = length-filter is_word c.args.self.now.rows in
    let last : c.args.hit.1 ≤ length words = omega (arith, c.requires.last, many) in
    lone_text (value_of c.args.column) (λ text. text.now) words rows i c.args.hit.1 c.first_value.result c.requires.first last (omega (arith, c.if-start-end.false)) same c.first_value.ensures
