use Rattle.std.proofs.Common.{Bor, List, map, subst, sym, ℕ, ◌∙◌}
use Rattle.std.proofs.lemmas.List.{length-map}
use Rattle.tb_words.proofs.Counted.{words_drained}
use Rattle.tb_words.specs.LineFaults.{AreWords}
use Rattle.tb_words.proofs.codes.count_words.Goals as goal

pub returns : goal.returns
returns c =
    let ran = c.count.ensures.ran in
    let words = map (λ (x : Bor (List ℕ)). x.now) ran.0 in (
      words,
      subst (λ (text : List ℕ). AreWords text words) c.split_whitespace.ensures.rest
          (words_drained ran.0 _ ran.1.1.0 ran.1.0 ran.1.1.1 ran.1.1.2),
      ran.2 ∙ sym (length-map ran.0 (λ (x : Bor (List ℕ)). x.now)),
    )
