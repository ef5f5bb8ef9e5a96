use Rattle.std.proofs.Common.{◌≡◌, ◌+◌, ◌++◌, List, map, drop}
use Rattle.tb_core.specs.Machine.{Batch}
use Rattle.tb_tables.specs.Values.{batch_of}
use Rattle.tb_refine.specs.DeskTables.{batch_record}
use Rattle.tb_lists.specs.Counted.{lines_with}
use Rattle.tb_lists.proofs.batches.lines_of.Given as goal

abbrev pub invariant-loop-row : goal.invariant-loop-row
invariant-loop-row l = (l.no ≡ l.row-index)
    × ((bs : List Batch) → map batch_of l.rows ≡ map batch_record bs → l.lines.items ++ lines_with l.counts (l.row-index + 1) (drop l.row-index bs) ≡ lines_with l.counts 1 bs)
