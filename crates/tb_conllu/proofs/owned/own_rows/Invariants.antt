use Rattle.std.proofs.Common.{◌≡◌, take}
use Rattle.tb_conllu.proofs.owned.own_rows.Given as goal

abbrev pub invariant-loop-row : goal.invariant-loop-row
invariant-loop-row g l = l.all.items ≡ take l.row-index l.rows
