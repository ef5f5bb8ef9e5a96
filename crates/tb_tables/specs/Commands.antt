-- Between crates: no contract of a front door cites a definition of this module.
-- What each command of a desk changes in the tables.
use Rattle.std.specs.Prelude.{ℕ, ◌+◌, zero, suc, List, [], ◌∷◌, length}
use Rattle.tb_tables.specs.Records.{Tables, Batch, Sentence, Revision, Move, Total}
use Rattle.tb_tables.specs.Changes.{with_batch, with_sentence, with_revision, with_move, with_pulled, without_pulled}
use Rattle.tb_tables.specs.Changes.{batch_replaced, sentence_replaced, total_replaced}

-- the totals of a state are replaced; state 0 is none
abbrev pub with_total : Tables → ℕ → Total → Tables
with_total d zero t = d
with_total d (suc n) t = total_replaced d (suc n) t

-- One more move, and the totals of the state that was left and of the one that was reached.
abbrev pub recorded : Tables → Move → Total → Total → Tables
recorded d m left reached = with_total (with_total (with_move d m) m.from left) m.to reached

-- ---- an import

-- a sentence of an imported file
pub record NewSentenceRecord : Type 0 where
  pub sent_id : List ℕ
  pub words : ℕ
  pub body : List ℕ

-- the sentence in this batch, and its first revision, by this user
abbrev pub with_item : ℕ → List ℕ → Tables → NewSentenceRecord → Tables
with_item batch who d item =
    with_revision (with_sentence d (record {
      sent_id = item.sent_id;
      batch = batch;
      rev = 1;
      words = item.words;
    })) (record { sent = 1 + length d.sentences; rev = 1; who = who; body = item.body })

abbrev pub with_items : ℕ → List ℕ → Tables → List NewSentenceRecord → Tables
with_items batch who d [] = d
with_items batch who d (item ∷ items) = with_items batch who (with_item batch who d item) items

-- a new batch, open and without a worker, and its sentences
abbrev pub after_import : Tables → List ℕ → List ℕ → List NewSentenceRecord → Move → Total → Total
    → Tables
after_import d name who items m left reached = recorded (with_items (1 + length d.batches) who
    (with_batch d (record { name = name; state = 1; worker = [] })) items) m left reached

-- ---- the others

-- the batch with this number has another state and worker
abbrev pub after_event : Tables → ℕ → Batch → ℕ → List ℕ → Move → Total → Total → Tables
after_event d number b in_state worker m left reached = recorded (batch_replaced d number (record b {
  state = in_state;
  worker = worker;
})) m left reached

-- the sentence with this number has one more revision, which is its current one
abbrev pub after_correction : Tables → ℕ → Sentence → Revision → ℕ → Move → Total → Total → Tables
after_correction d number s r words m left reached = recorded (sentence_replaced (with_revision d r) number
    (record s { rev = r.rev; words = words })) m left reached

abbrev pub after_pull : Tables → ℕ → Move → Total → Total → Tables
after_pull d number m left reached = recorded (with_pulled d number) m left reached

abbrev pub after_restore : Tables → ℕ → Move → Total → Total → Tables
after_restore d number m left reached = recorded (without_pulled d number) m left reached
