use Rattle.std.proofs.Common.{map, take}
use Rattle.tb_report.specs.Csv.{PutsRows}
use Rattle.tb_report.proofs.table.put_rows.Given as goal

abbrev pub invariant-loop-row : goal.invariant-loop-row
invariant-loop-row g l = PutsRows g.W.Write.contents l.initial.rows l.rows (map g.R.TableRow.fields (take l.row-index l.more))
