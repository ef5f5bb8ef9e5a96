use Rattle.std.proofs.Common.{map, drop, string_bytes}
use Rattle.tb_verify.proofs.Seen.{IsPassed}
use Rattle.tb_verify.proofs.apart.are_apart.Given as goal

abbrev pub invariant-loop-row : goal.invariant-loop-row
invariant-loop-row g l = IsPassed (map g.R.Titled.text l.rows) (map string_bytes l.seen.keys) (map g.R.Titled.text (drop l.row-index l.rows))
