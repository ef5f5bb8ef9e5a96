-- What a query finds in a sentence.
use Rattle.std.specs.Prelude.{◌≡◌, ℕ, ◌<◌, ◌≤◌, ◌↔◌, List, length}
use Rattle.tb_conllu.specs.Text.{BlockText}
use Rattle.tb_conllu.specs.Words.{words_of}
use Rattle.tb_match.specs.declared.strategy.Strategy.{Strategy}
use Rattle.tb_match.specs.Facts.{Facts, Holds}
use Rattle.tb_match.specs.Hits.{AreHits}
use Rattle.tb_match.specs.Match.{Match}
use Rattle.tb_match.specs.Trees.{Tree}
use Rattle.tb_match.specs.Weight.{Fits}
use Rattle.tb_literal.specs.Literals.{PlainLit}
use Rattle.tb_syntax.specs.Tests.{Test}
use Rattle.tb_query.specs.Meaning.{word_rows, HoldsOf}

-- a query: a pattern over tests, which it names by their numbers
pub record Asked : Type 0 where
  pub pat : Tree
  pub tests : List (Test PlainLit)

-- a query within the limits of a search
abbrev pub IsSearchable : Asked → Type 0
IsSearchable q = Fits (length q.tests) q.pat × (length q.tests ≤ 32)

-- the table says of which words of the sentence each test holds
abbrev pub IsTruthOf : List (Test PlainLit) → BlockText → Facts → Type 0
IsTruthOf ts b f = (f.words ≡ words_of b) × (f.exprs ≡ length ts) × ((e w : ℕ) → Holds f e w
    ↔ HoldsOf ts (word_rows b) e w)

-- a match with at least one word: it covers the words i + 1 to j
abbrev pub Finds : Asked → BlockText → ℕ → ℕ → Type 0
Finds q b i j = (i < j) × (j ≤ words_of b) × Match (HoldsOf q.tests (word_rows b)) q.pat i j

-- the hits of a query in a sentence
abbrev pub AreHitsIn : Strategy → Asked → BlockText → List (ℕ × ℕ) → Type 0
AreHitsIn s q b hits = AreHits s (Finds q b) hits
