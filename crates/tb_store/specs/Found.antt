-- The answers of a desk for the hits of a query, and what a sink has of them.
use Rattle.std.specs.Prelude.{◌≡◌, ◌<◌, ◌++◌, ℕ, List, length, Option}
use Rattle.std.specs.Io.KnownBytes.{Appends}
use Rattle.tb_conllu.specs.Sunk.{AppendsPart}
use Rattle.tb_match.specs.declared.strategy.Strategy.{Strategy}
use Rattle.tb_match.specs.declared.strategy.Strategy.TheVariants.{Every}
use Rattle.tb_query.specs.Search.{Asked}
use Rattle.tb_core.specs.declared.refusals.Fault.{Fault}
use Rattle.tb_core.specs.declared.refusals.Fault.TheVariants.{Refused, Output}
use Rattle.tb_core.specs.Machine.{Machine}
use Rattle.tb_search.specs.Searched.{AreFound, Occurrence, answer, lines, searched}

-- This number of hits is above the limit of an answer. Only `Every` has one: there all matches are hits.
abbrev pub IsAbove : Strategy → (limit number : ℕ) → Type 0
IsAbove Every limit number = limit < number
IsAbove _ limit number = ⊥

-- the hits of a query in released text
abbrev pub AreReleasedHits : Machine → Asked → Strategy → List Occurrence → Type 0
AreReleasedHits s q strategy found = AreFound strategy q (searched s) found

-- the query has this number of hits in released text, and it is within the limit
abbrev pub IsNumber : Machine → Asked → Strategy → (limit number : ℕ) → Type 0
IsNumber s q strategy limit number = (found : List Occurrence) × AreReleasedHits s q strategy found
    × (number ≡ length found) × (IsAbove strategy limit number → ⊥)

-- the query has more hits in released text than the limit allows
abbrev pub HasTooMany : Machine → Asked → Strategy → (limit : ℕ) → Type 0
HasTooMany s q strategy limit = (found : List Occurrence) × AreReleasedHits s q strategy found
    × IsAbove strategy limit (length found)

-- What a sink has when a search ends early. After a refusal it has nothing new, and where it failed itself a first part
-- of the answer. After any other fault it has the whole keyword lines of the first hits.
abbrev pub IsPartFound : Fault → Option (List ℕ) → Option (List ℕ) → ℕ → List Occurrence → Type 0
IsPartFound (Refused r) old new n found = new ≡ old
IsPartFound Output old new n found = AppendsPart old new (answer n found)
IsPartFound _ old new n found = (first : List Occurrence) × (rest : List Occurrence) × (found ≡ first ++ rest)
    × Appends old new (lines n first)
