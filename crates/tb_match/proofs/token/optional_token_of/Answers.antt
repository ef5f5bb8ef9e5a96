use Rattle.std.proofs.Common.{◌≡◌, ◌↔◌, ◌⊎◌, sym, subst}
use Rattle.tb_match.specs.Facts.{Holds}
use Rattle.tb_match.specs.Hits.{IsWord}
use Rattle.tb_match.specs.Match.{Match}
use Rattle.tb_match.specs.Trees.{tree}
use Rattle.tb_match.proofs.Parts.{is_rep}
use Rattle.tb_match.proofs.Runs.{optional_link}
use Rattle.tb_match.proofs.token.optional_token_of.Goals as goal

pub returns-in-Rep-clause-word : goal.returns-in-Rep-clause-word
returns-in-Rep-clause-word c = λ e h t i j.
    let shown = is_rep c.args.pat.now c.in-Rep.inner c.deref.result.now c.in-Rep.least c.in-Rep.most c.in-Rep.is c.deref.ensures in
    let numbers = c.is_optional.ensures c.if-is_optional.true in
    subst (λ p. Match (Holds t) p i j ↔ ((j ≡ i) ⊎ IsWord t e i j)) (sym shown)
    (optional_link (Match (Holds t) (tree c.deref.result.now)) (IsWord t e) (c.token_of.ensures.word e h t) i j c.in-Rep.least c.in-Rep.most numbers.0 numbers.1)
