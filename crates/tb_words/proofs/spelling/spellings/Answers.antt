use Rattle.std.proofs.Common.{List, ap, ℕ, ◌++◌, ◌∙◌}
use Rattle.tb_words.specs.Spelled.{text_shown}
use Rattle.tb_words.proofs.spelling.spellings.Goals as goal

pub returns : goal.returns
returns c =
    c.in_ok-push_str.ensures.bytes ∙ (ap (λ (xs : List ℕ). xs ++ c.as_str.result.now) c.in_ok-said.ensures
    ∙ ap (λ (xs : List ℕ). text_shown c.args.text.now ++ xs) (c.as_str.ensures.value ∙ c.in_ok-spelled.ensures))
