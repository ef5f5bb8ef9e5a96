use Rattle.std.proofs.Common.{◌≡◌, ◌≤◌, ◌↔◌, ℕ, arith, sym, subst}
use Rattle.tb_match.specs.Bits.{Forward, InTable}
use Rattle.tb_match.specs.Hits.{AreHits, IsFound, IsWord}
use Rattle.tb_match.specs.Match.{Match}
use Rattle.tb_match.specs.Facts.{Holds}
use Rattle.tb_match.specs.Trees.{tree}
use Rattle.tb_match.proofs.Filters.{AreHits-same, words_are_found}
use Rattle.tb_match.proofs.Steps.{steps_limit, steps_countable}
use Rattle.tb_match.proofs.Parts.{is_tok}
use Rattle.tb_match.proofs.finding.find.Goals as goal

pub rows-requires-clause-countable : goal.rows-requires-clause-countable
rows-requires-clause-countable c = steps_countable _ _ c.requires.1 (omega arith)

pub returns-clause-hits : goal.returns-clause-hits
returns-clause-hits c =
    let truth = c.args.truth.now in
    let pat = tree c.args.pat.now in
    let last = c.of_words-shape.result.last in
    let w = c.of_words-shape.result.width in
    let count : last ≡ truth.words = omega (arith, c.of_words-shape.ensures.last, c.words.ensures.count) in
    let rows : (i j : ℕ) → i ≤ truth.words → j ≤ truth.words → InTable c.deref.result.now w i j ↔ Match (Holds truth) pat i j =
    λ i j p q. subst (λ xs. InTable xs w i j ↔ Match (Holds truth) pat i j) (sym c.deref.ensures.value) (c.in_ok-table.ensures.rows i j p q) in
    AreHits-same c.args.strategy (Forward c.deref.result.now w last) (IsFound truth pat)
    (λ i j. (
      λ (lt, le, there). (lt, omega arith, (rows i j (omega arith) (omega arith)).0 there),
      λ (lt, le, match). (lt, omega arith, (rows i j (omega arith) (omega arith)).1 match),
    ))
    c.in_ok-hits.hits.items c.in_ok-hits.ensures

pub returns-clause-steps : goal.returns-clause-steps
returns-clause-steps c = steps_limit _ _ _ c.rows.ensures.bound

pub returns-in-Tok-clause-hits : goal.returns-in-Tok-clause-hits
returns-in-Tok-clause-hits c =
    let truth = c.args.truth.now in
    let hits = c.in_ok-words.words.items in
    subst (λ p. AreHits c.args.strategy (IsFound truth p) hits) (sym (is_tok c.args.pat.now c.in-Tok.expr c.in-Tok.is))
    (AreHits-same c.args.strategy (IsWord truth c.in-Tok.expr) _ (words_are_found truth c.in-Tok.expr) hits (c.in_ok-words.ensures.hits c.args.strategy))
