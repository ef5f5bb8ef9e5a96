use Rattle.std.proofs.Common.{List}
use Rattle.sqlite.specs.State.{HasCleanDisk}
use Rattle.sqlite.specs.Held.{state}
use Rattle.tb_conllu.specs.Text.{BlockText}
use Rattle.tb_core.specs.Machine.{Machine}
use Rattle.tb_refine.specs.DeskTables.{IsDeskOf}
use Rattle.tb_import.specs.Leaving.{IsLeft, Stays}
use Rattle.tb_import.specs.Firsts.{AreFirsts}
use Rattle.tb_import.proofs.Follows.{IsAfter}
use Rattle.tb_import.proofs.firsts.are_firsts.Given as goal

abbrev pub invariant-loop-one : goal.invariant-loop-one
invariant-loop-one g l =
    IsLeft g.S.Store l.fn.conn l.conn × Stays g.S.Store l.fn.conn l.conn
    × (HasCleanDisk (state g.S.Store l.conn) → (s : Machine) (bs : List BlockText) (h : AreFirsts s l.work bs) → IsDeskOf g.S.Store l.fn.conn s → IsAfter s l.work bs l.text h l.one-index l.rest)
