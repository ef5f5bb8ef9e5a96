use Rattle.std.proofs.Common.{◌≡◌, List, take}
use Rattle.std.specs.Prelude.{sum_by}
use Rattle.sqlite.specs.State.{HasCleanDisk}
use Rattle.sqlite.specs.Held.{state}
use Rattle.tb_conllu.specs.Text.{BlockText}
use Rattle.tb_conllu.specs.Words.{words_of}
use Rattle.tb_core.specs.Machine.{Machine}
use Rattle.tb_refine.specs.DeskTables.{IsDeskOf}
use Rattle.tb_import.specs.Leaving.{IsLeft, Stays}
use Rattle.tb_import.specs.Firsts.{AreFirsts}
use Rattle.tb_import.proofs.again.words_again.Given as goal

abbrev pub invariant-loop-one : goal.invariant-loop-one
invariant-loop-one g l =
    IsLeft g.S.Store l.fn.conn l.conn × Stays g.S.Store l.fn.conn l.conn
    × (HasCleanDisk (state g.S.Store l.conn) → (s : Machine) (bs : List BlockText) → AreFirsts s l.work bs → IsDeskOf g.S.Store l.fn.conn s → l.total ≡ sum_by words_of (take l.one-index bs))
