use Rattle.std.proofs.Common.{◌≡◌, ◌⊎◌, ℕ, List, [], Bor, ap, inr, subst, sym}
use Rattle.tb_host.specs.Words.{IsWord}
use Rattle.tb_host.proofs.wrong.Values.of_option.Goals as goal

pub returns-in-None-clause-value : goal.returns-in-None-clause-value
returns-in-None-clause-value c =
    let words = c.args.self.now.words.now in
    let others = c.word_or_empty.new.self.words.now in
    inr (
      ap (λ (r : Bor (List ℕ)). r.now) c.given_to-in-None.ensures.same.0,
      subst (λ (v : Bor (List ℕ)). IsWord words others v.now ⊎ ((words ≡ []) × (others ≡ []) × (v.now ≡ []))) (sym c.given_to-in-None.ensures.same.1) c.word_or_empty.ensures.word,
    )
