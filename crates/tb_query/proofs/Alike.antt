-- What a pattern matches rests on which expressions hold of which words alone.
use Rattle.std.proofs.Common.{◌≤◌, ℕ, zero, suc, List, inl, inr, sym, subst}
use Rattle.tb_conllu.specs.Text.{BlockText}
use Rattle.tb_match.specs.Facts.{Facts, Holds}
use Rattle.tb_match.specs.Hits.{AreHits, IsFound}
use Rattle.tb_match.specs.Match.{AnyOf, Chain, EachInTurn, Match}
use Rattle.tb_match.specs.Trees.{Tree, tok, cat, alt, rep, Forest, no_more, and_more}
use Rattle.tb_match.specs.declared.strategy.Strategy.{Strategy}
use Rattle.tb_match.proofs.Filters.{AreHits-same}
use Rattle.tb_query.specs.Meaning.{word_rows, HoldsOf}
use Rattle.tb_query.specs.Search.{Asked, IsTruthOf, Finds, AreHitsIn}

chain_also : (R S : ℕ → ℕ → Type 0) → ((i j : ℕ) → R i j → S i j) → (k i j : ℕ) → Chain R k i j → Chain S k i j
chain_also R S also zero i j e = e
chain_also R S also (suc k) i j (m, link, rest) = (m, also i m link, chain_also R S also k m j rest)

module _ (H K : ℕ → ℕ → Type 0) (also : (e w : ℕ) → H e w → K e w) where
  mutual
    pub match_also : (p : Tree) (i j : ℕ) → Match H p i j → Match K p i j
    match_also (tok e) i j (one, held) = (one, also e j held)
    match_also (cat parts) i j m = in_turn_also parts i j m
    match_also (alt parts) i j m = one_also parts i j m
    match_also (rep p a b) i j (k, least, most, chain) =
        (k, least, most, chain_also (Match H p) (Match K p) (match_also p) k i j chain)

    in_turn_also : (parts : Forest) (i j : ℕ) → EachInTurn H parts i j → EachInTurn K parts i j
    in_turn_also no_more i j e = e
    in_turn_also (and_more p rest) i j (m, first, others) = (m, match_also p i m first, in_turn_also rest m j others)

    one_also : (parts : Forest) (i j : ℕ) → AnyOf H parts i j → AnyOf K parts i j
    one_also no_more i j m = m
    one_also (and_more p rest) i j (inl m) = inl (match_also p i j m)
    one_also (and_more p rest) i j (inr m) = inr (one_also rest i j m)

-- what is found by the table is found in the sentence
pub found_there : (t : Facts) (q : Asked) (b : BlockText) → IsTruthOf q.tests b t → (s : Strategy) (hits : List (ℕ × ℕ)) →
    AreHits s (IsFound t q.pat) hits → AreHitsIn s q b hits
found_there t q b (words, exprs, held) s hits h =
    let H = Holds t in
    let K = HoldsOf q.tests (word_rows b) in
    AreHits-same s (IsFound t q.pat) (Finds q b)
    (λ i j. (
      λ (lt, le, match). (lt, subst (λ n. j ≤ n) words le, match_also H K (λ e w. (held e w).0) q.pat i j match),
      λ (lt, le, match). (lt, subst (λ n. j ≤ n) (sym words) le, match_also K H (λ e w. (held e w).1) q.pat i j match),
    ))
    hits h
