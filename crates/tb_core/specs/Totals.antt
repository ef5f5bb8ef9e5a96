-- Totals of the states, the net of the moves, and totals that are updated with each move.
use Rattle.std.specs.Prelude.{◌≡◌, ℕ, ◌+◌, ◌-◌, ◌<◌, ◌≤◌, ◌^◌, List, [], ◌∷◌, Bool}
use Rattle.std.specs.Prelude.{false, Option, Some, None, slice_index}
use Rattle.tb_core.specs.declared.kinds.State.{State}
use Rattle.tb_core.specs.declared.sums.Totals.{Totals}
use Rattle.tb_core.specs.Events.{state_place, is_state}
use Rattle.tb_core.specs.Moves.{MoveText}
use Rattle.tb_core.specs.Machine.{Batch, Sentence, Machine, state_in, weigh, when, one, words}

-- the sum of a weight over the sentences in a state
abbrev pub in_state : List Batch → State → (Sentence → ℕ) → Sentence → ℕ
in_state bs st w x = when (is_state (state_in bs x) st) (w x)

abbrev pub total : (Sentence → ℕ) → Machine → State → ℕ
total w s st = weigh (in_state s.batches st w) s.sentences

-- ---- the net of the moves

abbrev pub is_from : Option State → State → Bool
is_from None st = false
is_from (Some a) st = is_state a st

abbrev pub sum_moves : (MoveText → ℕ) → List MoveText → ℕ
sum_moves f [] = 0
sum_moves f (m ∷ ms) = f m + sum_moves f ms

-- what a move takes out of a state and brings into it, by one of its counts
abbrev pub out_of : State → (MoveText → ℕ) → MoveText → ℕ
out_of st f m = when (is_from m.from st) (f m)

abbrev pub into : State → (MoveText → ℕ) → MoveText → ℕ
into st f m = when (is_state m.to st) (f m)

-- The total of a state is the net of the moves: what is there and what left make up what came.
pub record IsNet (s : Machine) (st : State) : Type 0 where
  pub sentences : total one s st + sum_moves (out_of st (λ m. m.sentences)) s.moves ≡ sum_moves (into st (λ m.
      m.sentences)) s.moves
  pub words : total words s st + sum_moves (out_of st (λ m. m.words_out)) s.moves ≡ sum_moves (into st (λ m.
      m.words_in)) s.moves

-- ---- stored totals

-- one of six sums, in the order of the states
abbrev pub at_state : List ℕ → State → ℕ
at_state sums st = slice_index sums (state_place st)

-- each state has as much as leaves it
abbrev pub HasEnough : List ℕ → Option State → ℕ → Type 0
HasEnough sums from leaving = (st : State) → when (is_from from st) leaving ≤ at_state sums st

-- what is there afterwards fits 64 bits
abbrev pub HasSpace : List ℕ → Option State → State → ℕ → ℕ → Type 0
HasSpace sums from to leaving coming = (st : State)
    → at_state sums st - when (is_from from st) leaving + when (is_state to st) coming < 2 ^ 64

pub record Takes (t : Totals) (m : MoveText) : Type 0 where
  pub sentences_there : HasEnough t.sentences m.from m.sentences
  pub sentences_fit : HasSpace t.sentences m.from m.to m.sentences m.sentences
  pub words_there : HasEnough t.words m.from m.words_out
  pub words_fit : HasSpace t.words m.from m.to m.words_out m.words_in

-- each state lost what left it and gained what came to it, and no other state changed
abbrev pub Shifts : List ℕ → List ℕ → Option State → State → ℕ → ℕ → Type 0
Shifts old new from to leaving coming = (st : State) → at_state new st + when (is_from from st) leaving
    ≡ at_state old st + when (is_state to st) coming

-- The move was made.
pub record IsApplied (old new : Totals) (m : MoveText) : Type 0 where
  pub sentences : Shifts old.sentences new.sentences m.from m.to m.sentences m.sentences
  pub words : Shifts old.words new.words m.from m.to m.words_out m.words_in

-- The stored totals are those of a state.
pub record AreTotalsOf (t : Totals) (s : Machine) : Type 0 where
  pub sentences : (st : State) → at_state t.sentences st ≡ total one s st
  pub words : (st : State) → at_state t.words st ≡ total words s st
