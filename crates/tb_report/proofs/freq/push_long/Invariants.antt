use Rattle.std.proofs.Common.{◌≡◌, ◌++◌, [], map}
use Rattle.tb_report.specs.Kept.{ranked_row, rows_of}
use Rattle.tb_report.proofs.freq.push_long.Given as goal

abbrev pub invariant-loop-key : goal.invariant-loop-key
invariant-loop-key l = (map ranked_row l.ranks.items ++ rows_of l.key-iterator ≡ map ranked_row l.initial.ranks.items ++ rows_of l.long.entries) × (l.long.entries ≡ [] → l.key-iterator ≡ [])
