-- Inner: no contract beyond this crate cites a definition of this module.
-- Revisions that are chosen by sentence and number.
use Rattle.std.specs.Prelude.{ℕ, ◌+◌, List, [], ◌∷◌, map, cond, Bool, false, ◌&&◌, nat_eq}
use Rattle.tb_core.specs.Machine.{Sentence, rev}
use Rattle.tb_tables.specs.Records.{Revision}
use Rattle.tb_reads.specs.declared.work.BatchSentence.{BatchSentence}
use Rattle.tb_search.specs.declared.picks.Pick.{Pick}

abbrev pub asks : Pick → ℕ → ℕ → Bool
asks p sent rev = nat_eq p.sent sent && nat_eq p.rev rev

-- those of the revisions that are chosen, where both lists are in order
abbrev pub picked : List Pick → List Revision → List Revision
picked [] rs = []
picked (p ∷ ps) [] = []
picked (p ∷ ps) (r ∷ rs) = cond (asks p r.sent r.rev) (r ∷ picked ps rs) (picked (p ∷ ps) rs)

abbrev pub bodies : List Revision → List (List ℕ)
bodies rs = map (λ (r : Revision). r.body) rs

-- the current revisions of the wanted sentences, where the first of the list has the number n
abbrev pub picks_from : (Sentence → Bool) → ℕ → List Sentence → List Pick
picks_from wanted n [] = []
picks_from wanted n (x ∷ xs) = cond (wanted x) (record { sent = n; rev = rev x } ∷ picks_from wanted
    (n + 1) xs) (picks_from wanted (n + 1) xs)

-- the list begins with this number
abbrev pub begins : List ℕ → ℕ → Bool
begins [] n = false
begins (m ∷ ms) n = nat_eq m n

abbrev pub pick_of : BatchSentence → Pick
pick_of w = record { sent = w.number; rev = w.rev }
