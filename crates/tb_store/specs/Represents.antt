-- When a desk represents a state of the machine.
use Rattle.std.specs.Prelude.{◌≡◌, length, [], ◌∷◌, None}
use Rattle.sqlite.specs.Store.{Ghosts}
use Rattle.sqlite.specs.State.{HasCleanDisk}
use Rattle.sqlite.specs.Held.{Held, state}
use Rattle.tb_core.specs.Machine.{Machine}
use Rattle.tb_core.specs.declared.sums.Totals.{Totals}
use Rattle.tb_core.specs.Totals.{AreTotalsOf}
use Rattle.tb_refine.specs.DeskTables.{IsDeskOf}
use Rattle.tb_store.specs.Kept.{Kept}

-- Its connection holds the tables of this state, and the counts and totals that it keeps are the state's.
pub record Represents {S : Type 0} (g : Ghosts S) (d : Kept S) (s : Machine) : Type 0 where
  pub desk : IsDeskOf g d.conn s
  pub batches : d.batches ≡ length s.batches
  pub sentences : d.sentences ≡ length s.sentences
  pub moves : d.moves ≡ length s.moves
  pub totals : AreTotalsOf d.totals s

-- over a disk that kept what it took, the desk represents each state that the connection was the desk of
abbrev pub RepresentsEach : {S : Type 0} → Ghosts S → Held S → Kept S → Type 0
RepresentsEach g conn d = HasCleanDisk (state g d.conn) → (s : Machine) → IsDeskOf g conn s → Represents g d s

-- the connection without a limit on the steps of a statement
abbrev pub unlimited : {S : Type 0} → Held S → Held S
unlimited c = record c { step_limit = None }

-- no sentence in any state
abbrev pub no_totals : Totals
no_totals = record {
  sentences = 0 ∷ 0 ∷ 0 ∷ 0 ∷ 0 ∷ 0 ∷ [];
  words = 0 ∷ 0 ∷ 0 ∷ 0 ∷ 0 ∷ 0 ∷ [];
}
