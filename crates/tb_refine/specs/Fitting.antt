-- Between crates: no contract of a front door cites a definition of this module.
-- Bounds that the records of a desk keep: texts in UTF-8, numbers of 32 bits that mean something, and how many they
-- are.
use Rattle.std.specs.Prelude.{◌≡◌, ◌≤◌, ◌<◌, ◌^◌, ℕ, length, Option, IsUtf8}
use Rattle.std.specs.List.{All}
use Rattle.tb_core.specs.declared.kinds.State.{State}
use Rattle.tb_core.specs.declared.kinds.Kind.{Kind}
use Rattle.tb_tables.specs.Records.{Tables, Batch, Sentence, Revision, Move, Total}
use Rattle.tb_refine.specs.Numbers.{state_number, from_number, kind_number}

-- ---- texts and numbers that can be read back

pub record IsReadableBatch (x : Batch) : Type 0 where
  pub name_fits : IsUtf8 x.name
  pub state_fits : x.state < 2 ^ 32
  pub worker_fits : IsUtf8 x.worker

pub record IsReadableSentence (x : Sentence) : Type 0 where
  pub sent_id_fits : IsUtf8 x.sent_id
  pub batch_fits : x.batch < 2 ^ 32
  pub rev_fits : x.rev < 2 ^ 32
  pub words_fits : x.words < 2 ^ 32

pub record IsReadableRevision (x : Revision) : Type 0 where
  pub sent_fits : x.sent < 2 ^ 32
  pub rev_fits : x.rev < 2 ^ 32
  pub who_fits : IsUtf8 x.who
  pub body_fits : IsUtf8 x.body

pub record IsReadableMove (x : Move) : Type 0 where
  pub kind_fits : x.kind < 2 ^ 32
  pub batch_fits : x.batch < 2 ^ 32
  pub sent_fits : x.sent < 2 ^ 32
  pub from_fits : x.from < 2 ^ 32
  pub to_fits : x.to < 2 ^ 32
  pub sentences_fits : x.sentences < 2 ^ 32
  pub words_out_fits : x.words_out < 2 ^ 32
  pub words_in_fits : x.words_in < 2 ^ 32
  pub who_fits : IsUtf8 x.who

pub record IsReadableTotal (x : Total) : Type 0 where
  pub sentences_fits : x.sentences < 2 ^ 32
  pub words_fits : x.words < 2 ^ 32

-- every record can be read back
pub record IsReadable (d : Tables) : Type 0 where
  pub batches : All IsReadableBatch d.batches
  pub sentences : All IsReadableSentence d.sentences
  pub revisions : All IsReadableRevision d.revisions
  pub moves : All IsReadableMove d.moves
  pub totals : All IsReadableTotal d.totals
  pub pulled : All (λ n. n < 2 ^ 32) d.pulled

-- ---- how many records there are, and what their numbers mean

-- the number of a state
abbrev pub IsStateNumber : ℕ → Type 0
IsStateNumber n = (st : State) × (n ≡ state_number st)

-- the sentence is in one of n batches, and has a revision
pub record IsPlacedSentence (n : ℕ) (x : Sentence) : Type 0 where
  pub least : 1 ≤ x.batch
  pub most : x.batch ≤ n
  pub revised : 1 ≤ x.rev

-- the kind and the states of a move exist
pub record IsKnownMove (x : Move) : Type 0 where
  pub kind : (k : Kind) × (x.kind ≡ kind_number k)
  pub from : (f : Option State) × (x.from ≡ from_number f)
  pub to : IsStateNumber x.to

-- Batches, sentences and moves can be numbered by 31 bits, there are six totals, and the numbers of batches, states and
-- kinds mean one.
pub record IsFitting (d : Tables) : Type 0 where
  pub batches_few : length d.batches < 2 ^ 31
  pub sentences_few : length d.sentences < 2 ^ 31
  pub moves_few : length d.moves < 2 ^ 31
  pub six : length d.totals ≡ 6
  pub states : All (λ (b : Batch). IsStateNumber b.state) d.batches
  pub placed : All (IsPlacedSentence (length d.batches)) d.sentences
  pub known : All IsKnownMove d.moves
