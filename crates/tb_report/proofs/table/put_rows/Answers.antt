use Rattle.tb_report.proofs.CsvRows.{puts_more}
use Rattle.tb_report.proofs.table.put_rows.Goals as goal

pub loop-row-preserved : goal.loop-row-preserved
loop-row-preserved g c =
    puts_more g.W.Write.contents g.R.TableRow.fields c.args.more.now c.loop-row.row-index c.row-item.result c.args.rows.now c.loop-row.rows c.put.new.rows
    c.loop-row-test.true c.row-item.is c.loop-row.invariant c.in_ok-put.ensures
