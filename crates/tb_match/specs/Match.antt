-- What a pattern matches between two places of a sentence, stated as a relation. Patterns are the regular expressions
-- over tokens of the CQP query language (IMS Open Corpus Workbench, "CQP Interface and Query Language Manual", on
-- sequences of words). Place i is after the first i words, so the piece from i to j has the words i + 1 to j.
use Rattle.std.specs.Prelude.{◌≡◌, ℕ, zero, suc, ◌+◌, ◌≤◌, ◌⊎◌, Option, Some, None}
use Rattle.tb_match.specs.Trees.{Tree, tok, cat, alt, rep, Forest, no_more, and_more}

-- this many links of a relation, one after another
abbrev pub Chain : (ℕ → ℕ → Type 0) → ℕ → ℕ → ℕ → Type 0
Chain R zero i j = i ≡ j
Chain R (suc k) i j = (m : ℕ) × R i m × Chain R k m j

-- the number is at most the limit, if there is one
abbrev pub IsAtMost : ℕ → Option ℕ → Type 0
IsAtMost k None = Unit {0}
IsAtMost k (Some b) = k ≤ b

-- The first argument says which expression holds of which word.
abbrev mutual
  -- the pattern matches from place i to place j
  pub Match : (ℕ → ℕ → Type 0) → Tree → ℕ → ℕ → Type 0
  Match H (tok e) i j = (j ≡ i + 1) × H e j
  Match H (cat parts) i j = EachInTurn H parts i j
  Match H (alt parts) i j = AnyOf H parts i j
  Match H (rep t a b) i j = (k : ℕ) × (a ≤ k) × IsAtMost k b × Chain (Match H t) k i j

  -- the parts match one after another, each from where the one before it ended
  pub EachInTurn : (ℕ → ℕ → Type 0) → Forest → ℕ → ℕ → Type 0
  EachInTurn H no_more i j = i ≡ j
  EachInTurn H (and_more t rest) i j = (m : ℕ) × Match H t i m × EachInTurn H rest m j

  -- one of the parts matches
  pub AnyOf : (ℕ → ℕ → Type 0) → Forest → ℕ → ℕ → Type 0
  AnyOf H no_more i j = ⊥
  AnyOf H (and_more t rest) i j = Match H t i j ⊎ AnyOf H rest i j
