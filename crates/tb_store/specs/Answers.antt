-- What a desk answers from its state.
use Rattle.std.specs.Prelude.{◌≡◌, ◌⊎◌, ◌+◌, ◌-◌, ℕ, List, [], ◌∷◌, length, slice_get, Some, ⊤}
use Rattle.tb_conllu.specs.Text.{text_of}
use Rattle.tb_core.specs.declared.refusals.Refusal.TheVariants.{NoSuchSentence, NoSuchRevision}
use Rattle.tb_core.specs.declared.refusals.Fault.{Fault}
use Rattle.tb_core.specs.declared.refusals.Fault.TheVariants.{Refused}
use Rattle.tb_core.specs.declared.kinds.State.{State}
use Rattle.tb_core.specs.declared.sums.Totals.{Totals}
use Rattle.tb_core.specs.Machine.{Machine, Sentence, Revision, rev}
use Rattle.tb_core.specs.Moves.{MoveText}
use Rattle.tb_core.specs.Totals.{at_state, sum_moves, out_of, into}
use Rattle.tb_core.specs.Names.{Lacks}
use Rattle.tb_core.specs.Acts.{ids_of}
use Rattle.tb_core.specs.Commands.{HasSentence}
use Rattle.tb_refine.specs.Revisions.{HasRevision}
use Rattle.tb_store.specs.declared.answers.DeskCounts.{DeskCounts}

-- how many batches, sentences and moves there are
abbrev pub counts_in : Machine → DeskCounts
counts_in s = record { batches = length s.batches; sentences = length s.sentences; moves = length s.moves }

-- The totals are the net of the moves: in each state, what is there and what left make up what came in.
pub record AreNet (t : Totals) (moves : List MoveText) : Type 0 where
  pub sentences : (st : State)
      → at_state t.sentences st + sum_moves (out_of st (λ m. m.sentences)) moves
      ≡ sum_moves (into st (λ m. m.sentences)) moves
  pub words : (st : State)
      → at_state t.words st + sum_moves (out_of st (λ m. m.words_out)) moves
      ≡ sum_moves (into st (λ m. m.words_in)) moves

-- the text of this revision of this sentence
pub record IsRevisionText (s : Machine) (sentence revision : ℕ) (text : List ℕ) : Type 0 where
  pub place : ℕ
  pub found : Sentence
  pub there : HasSentence s sentence place found
  pub given : Revision
  pub current : HasRevision found revision given
  pub reported : text ≡ text_of (given.body ∷ [])

-- the same, where there is such a sentence
abbrev pub IsTextOf : Machine → ℕ → ℕ → List ℕ → Type 0
IsTextOf s sentence revision text = (x : Sentence) → slice_get s.sentences (sentence - 1) ≡ Some x
    → (q : Revision) × HasRevision x revision q × (text ≡ text_of (q.body ∷ []))

-- the number and the text of the current revision of this sentence
pub record IsCurrent (s : Machine) (sentence revision : ℕ) (text : List ℕ) : Type 0 where
  pub place : ℕ
  pub found : Sentence
  pub there : HasSentence s sentence place found
  pub current : revision ≡ rev found
  pub reported : text ≡ text_of (found.current.body ∷ [])

abbrev pub HasNoSentence : Machine → ℕ → Type 0
HasNoSentence s n = (place : ℕ) (x : Sentence) → HasSentence s n place x → ⊥

-- the sentence exists, and has no such revision
abbrev pub HasNoRevision : Machine → ℕ → ℕ → Type 0
HasNoRevision s n k = (place : ℕ) × (x : Sentence) × HasSentence s n place x
    × ((r : Revision) → HasRevision x k r → ⊥)

-- a refusal is one that the state gives; any fault of the store is possible
abbrev pub RefusesRevision : Machine → ℕ → ℕ → Fault → Type 0
RefusesRevision s n k (Refused r) = ((r ≡ NoSuchSentence) × HasNoSentence s n) ⊎ ((r ≡ NoSuchRevision)
    × HasNoRevision s n k)
RefusesRevision s n k _ = ⊤

-- a refusal says that no sentence has the `sent_id`; any fault of the store is possible
abbrev pub RefusesId : Machine → (sent_id : List ℕ) → Fault → Type 0
RefusesId s id (Refused r) = (r ≡ NoSuchSentence) × Lacks (ids_of s.sentences) id
RefusesId s id _ = ⊤
