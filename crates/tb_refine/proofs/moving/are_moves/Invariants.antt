use Rattle.std.proofs.Common.{take}
use Rattle.tb_refine.proofs.Numbering.{AreOfMoves}
use Rattle.tb_refine.proofs.moving.are_moves.Given as goal

abbrev pub invariant-loop-row : goal.invariant-loop-row
invariant-loop-row l = AreOfMoves (take l.row-index l.rows)
