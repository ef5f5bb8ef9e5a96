-- Between crates: no contract of a front door cites a definition of this module.
-- What a move changes in the tables.
use Rattle.std.specs.Prelude.{◌≡◌, ◌^◌, ◌<◌, Some}
use Rattle.tb_core.specs.declared.kinds.State.{State}
use Rattle.tb_core.specs.declared.sums.Totals.{Totals}
use Rattle.tb_core.specs.Moves.{MoveText}
use Rattle.tb_core.specs.Machine.{Machine}
use Rattle.tb_core.specs.Acts.{Act, after}
use Rattle.tb_core.specs.Acts.{move_of as move_made}
use Rattle.tb_core.specs.Totals.{at_state, AreTotalsOf}
use Rattle.tb_tables.specs.declared.rows.TotalRow.{TotalRow}
use Rattle.tb_tables.specs.Values.{move_of}
use Rattle.tb_refine.specs.DeskTables.{move_record}
use Rattle.tb_tables.specs.declared.recording.MoveWrite.{MoveWrite}

-- the row has the totals of the state
pub record IsTotalOf (t : Totals) (st : State) (row : TotalRow) : Type 0 where
  pub sentences : row.sentences ≡ at_state t.sentences st
  pub words : row.words ≡ at_state t.words st

-- each total fits 32 bits
abbrev pub AreNarrow : Totals → Type 0
AreNarrow t = (st : State) → (at_state t.sentences st < 2 ^ 32) × (at_state t.words st < 2 ^ 32)

-- so does each number of the move
pub record IsNarrowMove (m : MoveText) : Type 0 where
  pub no : m.no < 2 ^ 32
  pub batch : m.batch < 2 ^ 32
  pub sent : m.sent < 2 ^ 32
  pub sentences : m.sentences < 2 ^ 32
  pub words_out : m.words_out < 2 ^ 32
  pub words_in : m.words_in < 2 ^ 32

-- the move with its number, and the totals of the states that it leaves and reaches
pub record IsChangeOf (t : Totals) (m : MoveText) (c : MoveWrite) : Type 0 where
  pub number : c.number ≡ m.no
  pub row : move_of c.row ≡ move_record m
  pub left : (st : State) → m.from ≡ Some st → IsTotalOf t st c.left
  pub reached : IsTotalOf t m.to c.reached

-- The change is that of this act: its move, with the totals of the state after it.
pub record IsWritten (s : Machine) (a : Act) (c : MoveWrite) : Type 0 where
  pub totals : Totals
  pub stand : AreTotalsOf totals (after s a)
  pub change : IsChangeOf totals (move_made s a) c
