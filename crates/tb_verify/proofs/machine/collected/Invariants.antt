use Rattle.std.proofs.Common.{◌≡◌, map, take}
use Rattle.tb_tables.specs.Values.{batch_of}
use Rattle.tb_refine.specs.DeskTables.{batch_record}
use Rattle.tb_verify.proofs.machine.collected.Given as goal

abbrev pub invariant-loop-row : goal.invariant-loop-row
invariant-loop-row l = map batch_record l.batches.items ≡ map batch_of (take l.row-index l.rows)
