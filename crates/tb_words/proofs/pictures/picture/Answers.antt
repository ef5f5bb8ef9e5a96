use Rattle.std.proofs.Common.{ap, drop, List, lit<, ℕ, ◌∙◌}
use Rattle.std.specs.List.{before_first}
use Rattle.tb_words.proofs.Spellings.{cut_after}
use Rattle.tb_words.specs.FileLines.{is_line_feed}
use Rattle.tb_words.specs.QueryPlaces.{picture_text}
use Rattle.tb_words.proofs.pictures.picture.Goals as goal

pub returns-in-Ok : goal.returns-in-Ok
returns-in-Ok c = λ cut.
    let after = c.line_start-start.ensures cut in
    let start = cut_after 10 c.args.text.now c.args.at c.line_start-start.result (lit< tt) c.utf8.text cut.0 after.0 after.1 in (
      c.line_start-start.result,
      after,
      c.in-Ok.ensures ∙ (ap (λ (line : List ℕ). picture_text line c.characters_between.result) (c.line_from.ensures start)
          ∙ ap (λ (n : ℕ). picture_text (before_first is_line_feed (drop c.line_start-start.result c.args.text.now)) n) (c.characters_between.ensures start cut after.0)),
    )
