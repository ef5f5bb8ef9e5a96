-- Between crates: no contract of a front door cites a definition of this module.
-- A row of the code, as a record.
use Rattle.std.specs.Prelude.{string_bytes}
use Rattle.tb_tables.specs.Records.{Batch, Sentence, Revision, Move, Total}
use Rattle.tb_tables.specs.declared.rows.BatchRow.{BatchRow}
use Rattle.tb_tables.specs.declared.rows.SentenceRow.{SentenceRow}
use Rattle.tb_tables.specs.declared.rows.RevisionRow.{RevisionRow}
use Rattle.tb_tables.specs.declared.rows.MoveRow.{MoveRow}
use Rattle.tb_tables.specs.declared.rows.TotalRow.{TotalRow}

abbrev pub batch_of : BatchRow → Batch
batch_of b = record { name = string_bytes b.name; state = b.state; worker = string_bytes b.worker }

abbrev pub sentence_of : SentenceRow → Sentence
sentence_of s = record { sent_id = string_bytes s.sent_id; batch = s.batch; rev = s.rev; words = s.words }

abbrev pub revision_of : RevisionRow → Revision
revision_of r = record { sent = r.sent; rev = r.rev; who = string_bytes r.who; body = string_bytes r.body }

abbrev pub move_of : MoveRow → Move
move_of m = record {
  kind = m.kind;
  batch = m.batch;
  sent = m.sent;
  from = m.from;
  to = m.to;
  sentences = m.sentences;
  words_out = m.words_out;
  words_in = m.words_in;
  who = string_bytes m.who;
}

abbrev pub total_of : TotalRow → Total
total_of t = record { sentences = t.sentences; words = t.words }
