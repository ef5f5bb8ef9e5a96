use Rattle.std.proofs.Common.{◌↔◌, ℕ, sym, subst}
use Rattle.tb_match.specs.Facts.{Holds}
use Rattle.tb_match.specs.Hits.{IsWord}
use Rattle.tb_match.specs.Match.{Chain, Match}
use Rattle.tb_match.specs.Trees.{tree}
use Rattle.tb_match.proofs.Parts.{is_rep}
use Rattle.tb_match.proofs.Runs.{any_links}
use Rattle.tb_match.proofs.token.starred_token_of.Goals as goal

pub returns-in-Rep-clause-words : goal.returns-in-Rep-clause-words
returns-in-Rep-clause-words c = λ e h t i j.
    let shown = is_rep c.args.pat.now c.in-Rep.inner c.deref.result.now c.in-Rep.least c.in-Rep.most c.in-Rep.is c.deref.ensures in
    let inner = tree c.deref.result.now in
    let numbers = c.is_starred.ensures c.if-is_starred.true in
    subst (λ p. Match (Holds t) p i j ↔ ((k : ℕ) × Chain (IsWord t e) k i j)) (sym shown)
    (any_links (Match (Holds t) inner) (IsWord t e) (c.token_of.ensures.word e h t) i j c.in-Rep.least c.in-Rep.most numbers.0 numbers.1)
