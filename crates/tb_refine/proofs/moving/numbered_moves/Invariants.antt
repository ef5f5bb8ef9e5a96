use Rattle.std.proofs.Common.{◌≡◌, length, map, take}
use Rattle.tb_tables.specs.Values.{move_of}
use Rattle.tb_refine.specs.DeskTables.{move_record}
use Rattle.tb_refine.specs.Numbered.{AreNumbered}
use Rattle.tb_refine.proofs.moving.numbered_moves.Given as goal

abbrev pub invariant-loop-row : goal.invariant-loop-row
invariant-loop-row l = (l.no ≡ l.row-index) × (length l.moves.items ≡ l.row-index) × (map move_record l.moves.items ≡ map move_of (take l.row-index l.rows)) × AreNumbered 1 l.moves.items
