-- Which matches are hits, as relations between all matches of a sentence. This is the project's own reading of the
-- matching strategies of CQP ("CQP Interface and Query Language Manual", on the matching strategy).
use Rattle.std.specs.Prelude.{◌≡◌, ℕ, ◌+◌, ◌<◌, ◌≤◌, ◌⊎◌, ◌↔◌, List}
use Rattle.std.specs.List.{AllPairs, Contains}
use Rattle.tb_match.specs.declared.strategy.Strategy.{Strategy}
use Rattle.tb_match.specs.declared.strategy.Strategy.TheVariants.{Shortest, Longest, Every}
use Rattle.tb_match.specs.Match.{Match}
use Rattle.tb_match.specs.Facts.{Facts, Holds}
use Rattle.tb_match.specs.Trees.{Tree}

-- a match with at least one word
abbrev pub IsFound : Facts → Tree → ℕ → ℕ → Type 0
IsFound t p i j = (i < j) × (j ≤ t.words) × Match (Holds t) p i j

-- the piece from i to j is one word, of which the expression holds
abbrev pub IsWord : Facts → ℕ → ℕ → ℕ → Type 0
IsWord t e i j = (j ≡ i + 1) × Holds t e j

-- the piece from i to j contains the piece from k to l, and is not the same
abbrev pub ContainsStrictly : ℕ → ℕ → ℕ → ℕ → Type 0
ContainsStrictly i j k l = (i ≤ k) × (l ≤ j) × ((i ≡ k) × (j ≡ l) → ⊥)

-- which pairs of a relation are hits: those that strictly contain no other, those that no other strictly contains, or
-- all
abbrev pub IsHit : Strategy → (ℕ → ℕ → Type 0) → ℕ → ℕ → Type 0
IsHit Shortest R i j = R i j × ((k l : ℕ) → R k l → ContainsStrictly i j k l → ⊥)
IsHit Longest R i j = R i j × ((k l : ℕ) → R k l → ContainsStrictly k l i j → ⊥)
IsHit Every R i j = R i j

-- by first place, and then by last place
abbrev pub ComesBefore : (ℕ × ℕ) → (ℕ × ℕ) → Type 0
ComesBefore p q = (p.0 < q.0) ⊎ ((p.0 ≡ q.0) × (p.1 < q.1))

-- the list of exactly the hits of a relation, strictly ascending
abbrev pub AreHits : Strategy → (ℕ → ℕ → Type 0) → List (ℕ × ℕ) → Type 0
AreHits s R hits = AllPairs ComesBefore hits × ((i j : ℕ) → Contains hits (i, j) ↔ IsHit s R i j)

-- a pattern has exactly one list of hits in a sentence
abbrev pub HitsAreOneList : Type 0
HitsAreOneList =
    (s : Strategy) (t : Facts) (p : Tree) (xs ys : List (ℕ × ℕ)) →
    AreHits s (IsFound t p) xs → AreHits s (IsFound t p) ys → xs ≡ ys
