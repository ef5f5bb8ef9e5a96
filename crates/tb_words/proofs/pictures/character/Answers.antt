use Rattle.std.proofs.Common.{ap, length, min, take, ℕ, List, ◌+◌, ◌-◌, ◌^◌, ◌≡◌, ◌∙◌}
use Rattle.std.specs.Str.{chars}
use Rattle.std.proofs.lemmas.Iterator.{YieldsList-from_chars}
use Rattle.std.proofs.lemmas.Iterator.Consumers.{count_from_yields_List}
use Rattle.tb_words.proofs.Parts.{front_got}
use Rattle.tb_words.proofs.pictures.character.Goals as goal

pub returns : goal.returns
returns c =
    λ at.
    let front : c.unwrap_or.result.now ≡ take c.args.at c.args.text.now =
    (rw c.unwrap_or.ensures (front_got c.args.text.now c.args.at c.get.result _ c.utf8.text at c.get.ensures.cases)) in
    let counted = count_from_yields_List _ c.count.result c.count.ensures.ran (YieldsList-from_chars c.unwrap_or.result.now c.unwrap_or.utf8 c.chars.ensures.rest) in
    c.saturating_add.ensures ∙ ap (λ (n : ℕ). min (n + 1) (2 ^ 64 - 1)) (counted ∙ ap (λ (t : List ℕ). length (chars t)) front)
