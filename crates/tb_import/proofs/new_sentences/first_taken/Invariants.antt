use Rattle.std.proofs.Common.{◌≡◌, take}
use Rattle.sqlite.specs.State.{HasCleanDisk}
use Rattle.sqlite.specs.Held.{state}
use Rattle.tb_core.specs.Machine.{Machine}
use Rattle.tb_core.specs.Acts.{ids_of}
use Rattle.tb_refine.specs.DeskTables.{IsDeskOf}
use Rattle.tb_import.specs.Leaving.{IsLeft, Stays}
use Rattle.tb_import.proofs.Takes.{AreFree}
use Rattle.tb_import.proofs.new_sentences.first_taken.Given as goal

abbrev pub invariant-loop-one : goal.invariant-loop-one
invariant-loop-one g l =
    (l.number ≡ l.one-index) × IsLeft g.S.Store l.fn.conn l.conn × Stays g.S.Store l.fn.conn l.conn
    × (HasCleanDisk (state g.S.Store l.conn) → (s : Machine) → IsDeskOf g.S.Store l.fn.conn s → AreFree (ids_of s.sentences) (take l.one-index l.taken))
