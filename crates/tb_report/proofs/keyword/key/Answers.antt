use Rattle.std.proofs.Common.{◌≡◌, ◌-◌, ◌∙◌, ap, drop, filter, List, take}
use Rattle.tb_conllu.specs.Text.{RowText, BlockText}
use Rattle.tb_conllu.specs.Words.{is_word}
use Rattle.tb_query.specs.Meaning.{value_of, word_rows}
use Rattle.tb_report.specs.Keywords.{joined}
use Rattle.tb_report.proofs.HitTexts.{behind}
use Rattle.tb_report.proofs.keyword.key.Goals as goal

pub returns : goal.returns
returns g c =
    let i = c.args.hit.0 in
    let j = c.args.hit.1 in
    let words = word_rows c.args.block.now in
    let rows = filter is_word c.after_words-rows.result.now in
    let same : rows ≡ drop i words = c.after_words-rows.ensures ∙ ap (λ (rs : List RowText). drop i (filter is_word rs)) c.deref.ensures.value ∙ ap (λ (b : BlockText). drop i (word_rows b)) c.block.view_is in
    c.in_ok-push_words.ensures ∙ ap (λ texts. joined (take (j - i) texts)) (behind (value_of c.args.column) words rows i same)
