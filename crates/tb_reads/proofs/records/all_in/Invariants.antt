use Rattle.std.proofs.Common.{◌≡◌, length, map, take}
use Rattle.tb_tables.specs.Records.{numbered}
use Rattle.tb_reads.proofs.records.all_in.Given as goal

abbrev pub invariant-loop-row : goal.invariant-loop-row
invariant-loop-row g l =
    (l.number ≡ l.row-index) × (length l.found.items ≡ l.row-index)
    × (take l.row-index l.rows ≡ numbered g.T.FromRow.shown 1 (map g.T.FromRow.plain l.found.items))
