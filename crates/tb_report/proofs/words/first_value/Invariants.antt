use Rattle.std.proofs.Common.{◌≡◌, []}
use Rattle.tb_report.proofs.WordLists.{words_to}
use Rattle.tb_report.proofs.words.first_value.Given as goal

abbrev pub invariant-loop-row : goal.invariant-loop-row
invariant-loop-row g l = words_to l.row-index l.rows ≡ []
