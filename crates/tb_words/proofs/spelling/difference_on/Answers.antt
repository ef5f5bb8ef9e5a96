use Rattle.std.proofs.Common.{List, Some, ap, arith, drop, ℕ, ◌∙◌}
use Rattle.tb_words.proofs.Spellings.{cut_at_word, space_too}
use Rattle.tb_words.specs.Spelled.{difference_sentence, spellings_text, spellings_told}
use Rattle.tb_words.specs.declared.findings.Finding.{Finding}
use Rattle.tb_words.proofs.spelling.difference_on.Goals as goal

pub returns : goal.returns
returns c =
    let text = c.args.text.now in
    let forms = c.args.forms.now in
    let at = c.same-at.result in
    let start = c.word_start-start.result in
    let same = c.same-at.ensures in
    let cut = same.2.1 in
    let begins = c.word_start-start.ensures cut.0 in
    let text_cut = cut_at_word text at start c.utf8.text cut.0.0 begins.0 begins.1 in
    let forms_cut = cut_at_word forms at start c.utf8.forms cut.1.0 begins.0
    (space_too text forms at start (λ k less. same.1.2 k (omega (arith, less, same.2.0))) begins.0 begins.1) in
    let sentence = c.sentence_of-sentence.ensures ∙ (ap (λ (t : List ℕ). difference_sentence t c.rest-2.result.now) (c.rest.ensures cut.0)
    ∙ ap (λ (t : List ℕ). difference_sentence (drop at text) t) (c.rest-2.ensures cut.1)) in
    let said = c.in-Ok.ensures ∙ (ap (λ (t : List ℕ). spellings_text t c.rest-4.result.now) (c.rest-3.ensures text_cut)
    ∙ ap (λ (t : List ℕ). spellings_text (drop start text) t) (c.rest-4.ensures forms_cut)) in (
      ap (λ (f : Finding). f.line) c.and.ensures ∙ ap (λ (f : Finding). f.line) c.on.ensures,
      (
        at,
        start,
        same,
        begins,
        ap (λ (f : Finding). f.sentence.now) c.and.ensures ∙ (ap (λ (f : Finding). f.sentence.now) c.on.ensures ∙ sentence),
        ap (λ (f : Finding). spellings_told f.detail) c.and.ensures ∙ ap (λ (t : List ℕ). Some t) said,
      ),
    )
