-- Between crates: no contract of a front door cites a definition of this module.
-- Records that can be read back from columns: texts in UTF-8, numbers of 32 bits.
use Rattle.std.specs.Prelude.{◌≡◌, ◌⊎◌, ◌<◌, ◌^◌, ℕ, List, IsUtf8}
use Rattle.sqlite.specs.declared.types.Value.{Value}
use Rattle.sqlite.specs.declared.types.Value.TheVariants.{Text}
use Rattle.tb_tables.specs.Records.{Batch, Sentence, Revision, Move, Total}
use Rattle.tb_reads.specs.declared.stream.CurrentRev.{CurrentRev}
use Rattle.tb_reads.specs.declared.work.BatchSentence.{BatchSentence}

-- the value is a text in UTF-8
abbrev pub ShowsText : Value → Type 0
ShowsText value = (text : List ℕ) × IsUtf8 text × (value ≡ Text text)

pub record IsBatch (x : Batch) : Type 0 where
  pub name_fits : IsUtf8 x.name
  pub state_fits : x.state < 2 ^ 32
  pub worker_fits : IsUtf8 x.worker

pub record IsSentence (x : Sentence) : Type 0 where
  pub sent_id_fits : IsUtf8 x.sent_id
  pub batch_fits : x.batch < 2 ^ 32
  pub rev_fits : x.rev < 2 ^ 32
  pub words_fits : x.words < 2 ^ 32

pub record IsMove (x : Move) : Type 0 where
  pub kind_fits : x.kind < 2 ^ 32
  pub batch_fits : x.batch < 2 ^ 32
  pub sent_fits : x.sent < 2 ^ 32
  pub from_fits : x.from < 2 ^ 32
  pub to_fits : x.to < 2 ^ 32
  pub sentences_fits : x.sentences < 2 ^ 32
  pub words_out_fits : x.words_out < 2 ^ 32
  pub words_in_fits : x.words_in < 2 ^ 32
  pub who_fits : IsUtf8 x.who

pub record IsTotal (x : Total) : Type 0 where
  pub sentences_fits : x.sentences < 2 ^ 32
  pub words_fits : x.words < 2 ^ 32

pub record IsRevision (x : Revision) : Type 0 where
  pub sent_fits : x.sent < 2 ^ 32
  pub rev_fits : x.rev < 2 ^ 32
  pub who_fits : IsUtf8 x.who
  pub body_fits : IsUtf8 x.body

pub record IsWork (x : BatchSentence) : Type 0 where
  pub number_fits : x.number < 2 ^ 32
  pub rev_fits : x.rev < 2 ^ 32
  pub words_fits : x.words < 2 ^ 32

pub record IsHead (x : CurrentRev) : Type 0 where
  pub batch_fits : x.batch < 2 ^ 32
  pub rev_fits : x.rev < 2 ^ 32

-- revisions in the order of their sentences, and within a sentence in the order of their numbers
abbrev pub ComesBefore : Revision → Revision → Type 0
ComesBefore r s = (r.sent < s.sent) ⊎ ((r.sent ≡ s.sent) × (r.rev < s.rev))
