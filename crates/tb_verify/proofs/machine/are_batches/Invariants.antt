use Rattle.std.proofs.Common.{take}
use Rattle.tb_tables.specs.Values.{batch_of}
use Rattle.tb_refine.specs.DeskTables.{batch_record}
use Rattle.tb_verify.proofs.Agreeing.{Agree}
use Rattle.tb_verify.proofs.machine.are_batches.Given as goal

abbrev pub invariant-loop-row : goal.invariant-loop-row
invariant-loop-row l = Agree batch_record batch_of (take l.row-index l.rows)
