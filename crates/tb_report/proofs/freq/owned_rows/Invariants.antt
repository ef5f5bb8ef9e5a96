use Rattle.std.proofs.Common.{◌≡◌, map, take}
use Rattle.tb_report.specs.Kept.{ranked_row, text_row}
use Rattle.tb_report.proofs.freq.owned_rows.Given as goal

abbrev pub invariant-loop-rank : goal.invariant-loop-rank
invariant-loop-rank l = map text_row l.rows.items ≡ map ranked_row (take l.rank-index l.ranks)
