use Rattle.std.proofs.Common.{ap, chars, drop, length, List, take, ℕ, ◌-◌, ◌≡◌, ◌∙◌}
use Rattle.std.proofs.lemmas.Iterator.{YieldsList-from_chars}
use Rattle.std.proofs.lemmas.Iterator.Consumers.{count_from_yields_List}
use Rattle.tb_words.proofs.Parts.{part_got}
use Rattle.tb_words.proofs.pictures.characters_between.Goals as goal

pub returns : goal.returns
returns c = λ start at within.
    let part : c.unwrap_or.result.now ≡ take (c.args.at - c.args.start) (drop c.args.start c.args.text.now) =
    rw c.unwrap_or.ensures (part_got c.args.text.now c.args.start c.args.at c.get.result _ within start at c.get.ensures.cases) in
    count_from_yields_List _ c.count.result c.count.ensures.ran
    (YieldsList-from_chars c.unwrap_or.result.now c.unwrap_or.utf8 c.chars.ensures.rest)
    ∙ ap (λ (bs : List ℕ). length (chars bs)) part
