-- The records that store a state of the desk machine in the tables.
use Rattle.std.specs.Prelude.{List, [], ◌∷◌, map}
use Rattle.sqlite.specs.Store.{Ghosts}
use Rattle.sqlite.specs.Held.{Held}
use Rattle.tb_core.specs.declared.kinds.State.{State}
use Rattle.tb_core.specs.declared.kinds.State.TheVariants.{Opened, Assigned, Submitted, Adjudicated, Released}
use Rattle.tb_core.specs.declared.kinds.State.TheVariants.{Withdrawn}
use Rattle.tb_core.specs.Machine as machine
use Rattle.tb_core.specs.Machine.{Machine, rev, words, one}
use Rattle.tb_core.specs.Moves.{MoveText}
use Rattle.tb_core.specs.Rows.{RevisionRow, revisions_from, pulled_from}
use Rattle.tb_core.specs.Totals.{total}
use Rattle.tb_core.specs.Reaching.{IsReachable}
use Rattle.tb_tables.specs.Records.{Tables, Batch, Sentence, Revision, Move, Total}
use Rattle.tb_tables.specs.Changes.{Holds}
use Rattle.tb_refine.specs.Numbers.{state_number, from_number, kind_number}

abbrev pub batch_record : machine.Batch → Batch
batch_record b = record { name = b.name; state = state_number b.state; worker = b.worker }

abbrev pub sentence_record : machine.Sentence → Sentence
sentence_record x = record { sent_id = x.sent_id; batch = x.batch; rev = rev x; words = words x }

abbrev pub revision_record : RevisionRow → Revision
revision_record r = record { sent = r.sent; rev = r.rev; who = r.who; body = r.body }

abbrev pub move_record : MoveText → Move
move_record m = record {
  kind = kind_number m.kind;
  batch = m.batch;
  sent = m.sent;
  from = from_number m.from;
  to = state_number m.to;
  sentences = m.sentences;
  words_out = m.words_out;
  words_in = m.words_in;
  who = m.who;
}

-- the sentences in a state, and the words of their current revisions
abbrev pub total_record : Machine → State → Total
total_record s st = record { sentences = total one s st; words = total words s st }

abbrev pub six_states : List State
six_states = Opened ∷ Assigned ∷ Submitted ∷ Adjudicated ∷ Released ∷ Withdrawn ∷ []

abbrev pub tables_of : Machine → Tables
tables_of s = record {
  batches = map batch_record s.batches;
  sentences = map sentence_record s.sentences;
  revisions = map revision_record (revisions_from 1 s.sentences);
  moves = map move_record s.moves;
  totals = map (total_record s) six_states;
  pulled = pulled_from 1 s.sentences;
}

-- A connection in no transaction, whose tables store this state, now and after each crash. Accepted commands reach the
-- state.
pub record IsDeskOf {S : Type 0} (g : Ghosts S) (c : Held S) (s : Machine) : Type 0 where
  pub reachable : IsReachable s
  pub holds : Holds g c (tables_of s)
