-- Between crates: no contract of a front door cites a definition of this module.
-- When a change follows the records that are there, and what is short enough to be stored.
use Rattle.std.specs.Prelude.{◌≡◌, ◌+◌, ◌≤◌, length}
use Rattle.tb_tables.specs.Records.{Tables}
use Rattle.tb_tables.specs.Commands.{NewSentenceRecord}
use Rattle.tb_tables.specs.Failing.{IsShort}
use Rattle.tb_tables.specs.declared.recording.MoveWrite.{MoveWrite}

-- its move has the next number, and the states that it leaves and reaches have totals
pub record Follows (d : Tables) (change : MoveWrite) : Type 0 where
  pub number : change.number ≡ 1 + length d.moves
  pub left : change.row.from ≤ length d.totals
  pub reached : change.row.to ≤ length d.totals

-- SQLite can store each text of the sentence
pub record IsShortItem (item : NewSentenceRecord) : Type 0 where
  pub sent_id : IsShort item.sent_id
  pub body : IsShort item.body
