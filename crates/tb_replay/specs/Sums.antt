-- Inner: no contract beyond this crate cites a definition of this module.
-- The totals of the states, from the rows of batches and sentences.
use Rattle.std.specs.Prelude.{ℕ, ◌+◌, List, [], ◌∷◌, cond}
use Rattle.tb_core.specs.declared.kinds.State.{State}
use Rattle.tb_core.specs.declared.kinds.State.TheVariants.{Withdrawn}
use Rattle.tb_core.specs.Events.{is_state}
use Rattle.tb_core.specs.Machine.{Batch, batch_with, when}
use Rattle.tb_replay.specs.Summaries.{RevisionRow, SummaryRow}

-- a pulled sentence is withdrawn, any other is in the state of its batch
abbrev pub entry_state : List Batch → SummaryRow → State
entry_state bs e = cond e.pulled Withdrawn (batch_with bs e.batch).state

-- the words of the last revision
abbrev pub last_count : List RevisionRow → ℕ
last_count [] = 0
last_count (r ∷ []) = r.words
last_count (r ∷ q ∷ rs) = last_count (q ∷ rs)

abbrev pub one_each : SummaryRow → ℕ
one_each e = 1

abbrev pub words_each : SummaryRow → ℕ
words_each e = last_count e.revisions

-- the sum of a weight over the sentences in a state
abbrev pub entry_total : (SummaryRow → ℕ) → List Batch → State → List SummaryRow → ℕ
entry_total w bs st [] = 0
entry_total w bs st (e ∷ es) = when (is_state (entry_state bs e) st) (w e) + entry_total w bs st es
