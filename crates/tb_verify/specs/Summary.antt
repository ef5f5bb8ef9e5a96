-- Between crates: no contract of a front door cites a definition of this module.
-- What rows say of a state.
use Rattle.std.specs.Prelude.{◌≡◌, List, length, map}
use Rattle.tb_core.specs.declared.kinds.State.{State}
use Rattle.tb_core.specs.declared.sums.Totals.{Totals}
use Rattle.tb_core.specs.Machine.{Machine, Batch}
use Rattle.tb_core.specs.Moves.{MoveText}
use Rattle.tb_core.specs.Totals.{at_state, AreTotalsOf}
use Rattle.tb_replay.specs.Summaries.{SummaryRow, entries_of}
use Rattle.tb_replay.specs.Fine.{AreFine}
use Rattle.tb_tables.specs.Records.{Tables, Total}
use Rattle.tb_tables.specs.Values.{batch_of, sentence_of, revision_of, move_of, total_of}
use Rattle.tb_refine.specs.DeskTables.{six_states}
use Rattle.tb_verify.specs.declared.summary.DeskSummary.{DeskSummary}
use Rattle.tb_verify.specs.declared.summary.TableRows.{TableRows}

-- the records of totals, in the order of the states
abbrev pub six_totals : Totals → List Total
six_totals t = map (λ (st : State). record {
  sentences = at_state t.sentences st;
  words = at_state t.words st;
}) six_states

-- the records that rows show
abbrev pub tables_in : TableRows → Tables
tables_in r = record {
  batches = map batch_of r.batches.items;
  sentences = map sentence_of r.sentences.items;
  revisions = map revision_of r.revisions.items;
  moves = map move_of r.moves.items;
  totals = map total_of r.totals.items;
  pulled = r.pulled.items;
}

-- A state with these batches, sentences and moves, whose names are apart and whose sentences are each fine by itself.
pub record IsShownBy (batches : List Batch) (entries : List SummaryRow) (moves : List MoveText) (f : Machine) : Type 0 where
  pub batches_are : batches ≡ f.batches
  pub entries_are : entries ≡ entries_of f.sentences
  pub moves_are : moves ≡ f.moves
  pub fine : AreFine f

-- the counts and the totals are the state's
pub record IsSummaryOf (x : DeskSummary) (s : Machine) : Type 0 where
  pub batches : x.batches ≡ length s.batches
  pub sentences : x.sentences ≡ length s.sentences
  pub moves : x.moves ≡ length s.moves
  pub totals : AreTotalsOf x.totals s
