use Rattle.std.proofs.Common.{string_bytes, ◌∙◌}
use Rattle.tb_words.proofs.Spellings.{difference_told}
use Rattle.tb_words.proofs.spelling.difference.Goals as goal

pub returns : goal.returns
returns c =
    difference_told c.args.placed.now c.in_ok-given.given (string_bytes c.in-Ok.text) c.comment_line-line.result c.as_str.result.now
    c.as_str-2.result.now c.difference_on.result c.in_ok-given.ensures c.in-Ok.ensures c.comment_line-line.ensures c.as_str.ensures.value
    (c.as_str-2.ensures.value ∙ c.in-Ok-restored.ensures.value) c.difference_on.ensures
