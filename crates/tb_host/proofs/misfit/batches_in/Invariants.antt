use Rattle.std.proofs.Common.{◌≡◌, map, take}
use Rattle.tb_host.specs.Looked.{IsBatchRow}
use Rattle.tb_host.specs.Misfits.{AreRight}
use Rattle.tb_refine.specs.DeskTables.{batch_record}
use Rattle.tb_tables.specs.Values.{batch_of}
use Rattle.tb_host.proofs.misfit.batches_in.Given as goal

abbrev pub invariant-loop-at : goal.invariant-loop-at
invariant-loop-at l = (map batch_record l.batches.items ≡ map batch_of (take l.at l.rows)) × AreRight (λ _. IsBatchRow) l.rows l.at
