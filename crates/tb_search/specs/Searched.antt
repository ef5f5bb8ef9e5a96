-- What is found in the sentences of a desk, and the answers of a search and of a count.
-- The CQP Query Language Manual, on concordances: the matches in the order of the corpus, a line for each.
use Rattle.std.specs.Prelude.{◌≡◌, ℕ, List, [], ◌∷◌, ◌++◌, map, length, codes, Option}
use Rattle.std.specs.List.{flat_map}
use Rattle.std.specs.Fmt.{decimal}
use Rattle.std.specs.Io.KnownBytes.{Appends}
use Rattle.tb_conllu.specs.Text.{BlockText}
use Rattle.tb_conllu.specs.Reported.{IsFile}
use Rattle.tb_conllu.specs.Sunk.{AppendsPart}
use Rattle.tb_rules.specs.Rules.{KeepsRules}
use Rattle.tb_match.specs.declared.strategy.Strategy.{Strategy}
use Rattle.tb_syntax.specs.declared.lexeme.Attr.{Attr}
use Rattle.tb_query.specs.Search.{Asked, AreHitsIn}
use Rattle.tb_core.specs.Machine.{Machine, Sentence}
use Rattle.tb_report.specs.Keywords.{keyword_line, key_of}
use Rattle.tb_search.specs.declared.stopped.Stopped.{Stopped}
use Rattle.tb_search.specs.declared.stopped.Stopped.TheVariants.{Output}
use Rattle.tb_search.specs.Released.{released}

-- a hit beside its sentence
abbrev pub Occurrence : Type 0
Occurrence = BlockText × (ℕ × ℕ)

abbrev pub occurrences : BlockText → List (ℕ × ℕ) → List Occurrence
occurrences b hits = map (λ (h : ℕ × ℕ). (b, h)) hits

-- the hits of a query in sentences: sentence by sentence, and in each in the order of the strategy
abbrev pub AreFound : Strategy → Asked → List BlockText → List Occurrence → Type 0
AreFound s q [] found = found ≡ []
AreFound s q (b ∷ bs) found = (hits : List (ℕ × ℕ)) × (rest : List Occurrence) × AreHitsIn s q b hits
    × AreFound s q bs rest × (found ≡ occurrences b hits ++ rest)

-- what is searched: the current revisions of released sentences, in the order of the sentences' numbers
abbrev pub searched : Machine → List BlockText
searched s = map (λ (x : Sentence). x.current.body) (released s)

-- their keyword lines, with n words of context
abbrev pub lines : ℕ → List Occurrence → List ℕ
lines n found = flat_map (λ (f : Occurrence). keyword_line f.0 f.1 n) found

-- their keys
abbrev pub keys : Attr → List Occurrence → List (List ℕ)
keys column found = map (λ (f : Occurrence). key_of column f.0 f.1) found

-- the last line of an answer; it has no tab, so it is no keyword line
abbrev pub total_line : ℕ → List ℕ
total_line n = codes "hits " ++ decimal n ++ 10 ∷ []

-- the answer of a search
abbrev pub answer : ℕ → List Occurrence → List ℕ
answer n found = lines n found ++ total_line (length found)

-- What a sink has of keyword lines when a call ends early: a first part where the sink refused, else the whole lines of
-- the first hits.
abbrev pub AreCut : Stopped → Option (List ℕ) → Option (List ℕ) → ℕ → List Occurrence → Type 0
AreCut Output old new n found = AppendsPart old new (lines n found)
AreCut _ old new n found = (first : List Occurrence) × (rest : List Occurrence) × (found ≡ first ++ rest)
    × Appends old new (lines n first)

-- the same for a whole answer
abbrev pub IsSearchBrokenOff : Stopped → Option (List ℕ) → Option (List ℕ) → ℕ → List Occurrence
    → Type 0
IsSearchBrokenOff Output old new n found = AppendsPart old new (answer n found)
IsSearchBrokenOff _ old new n found = (first : List Occurrence) × (rest : List Occurrence) × (found ≡ first ++ rest)
    × Appends old new (lines n first)

-- the text is that of one sentence, which keeps the rules of a sentence
abbrev pub IsValidText : BlockText → List ℕ → Type 0
IsValidText b text = IsFile text (b ∷ []) × KeepsRules b

-- Where this is the text of a sentence, P holds of its hits.
abbrev pub Meets : Strategy → Asked → List ℕ → (List Occurrence → Type 0) → Type 0
Meets s q text P = (b : BlockText) → IsValidText b text → (hits : List (ℕ × ℕ)) × AreHitsIn s q b hits
    × P (occurrences b hits)
